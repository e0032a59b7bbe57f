-- Whether a set of colours is that of a graph is decided, and each graph has an answer.
use Rattle.std.proofs.Common.{◌≡◌, ◌==◌, ℕ, ◌/◌, ◌%◌, ◌<◌, ◌≤◌, Bool, false, List, length, get_or, map, take, drop, ◌⊎◌, inl, inr, refl, ap, ◌∙◌, arith, ⊎_elim}
use Rattle.std.proofs.lemmas.Bool.{cases_eq, eq-eqb, eqb-true, both_ways}
use Rattle.std.proofs.lemmas.List.{length-map, nil_from_length}
use Rattle.std.proofs.lemmas.List.FromFn.{length-map-range_with_len}
use Rattle.pair_colours.specs.Colouring.{PairColouring, IsColouring, FitsColouring}
use Rattle.pair_colours.proofs.Places.{place_below}
use Rattle.pair_colours.proofs.ColourSets.{edge_set_or_not}
use Rattle.pair_colours.proofs.Reaching.{IsFirstBelow, first_below}
use Rattle.drg_arrays.specs.declared.levels.TheConstants.{UNREACHED}
use Rattle.drg_arrays.specs.declared.answer.ArrayAnswer.{ArrayAnswer}
use Rattle.drg_arrays.specs.declared.answer.ArrayAnswer.TheVariants.{Array, Disconnected, Irregular}
use Rattle.drg_arrays.specs.Graph.{Graph, graph_of, IsGraphSet}
use Rattle.drg_arrays.specs.Tables.{FitsGraph, AreDistances, IsFirstUnlike, IsAlikeAt}
use Rattle.drg_arrays.specs.Answer.{IsGraphAnswer, IsArrayAnswer}
use Rattle.drg_arrays.proofs.TableLemmas.{AreDistances-from_table, IsDisconnectedAt-from_table}
use Rattle.drg_arrays.proofs.Regular.{IsIrregularAt-from_place, HasArray-from_tables}
use Rattle.drg_arrays.proofs.SomeDistances.{some_table}
use Rattle.drg_arrays.proofs.SomeTables.{some_counts, firsts_of, AreFirstPlaces-firsts_of, unlike_or_alike, greatest_place}

-- a connected graph has an array, or an irregular pair
connected_answer : (G : Graph) (table : List ℕ) → 1 ≤ G.size → AreDistances G table → (answer : ArrayAnswer) × IsGraphAnswer G answer
connected_answer G table one d = ⊎_elim irregular regular (unlike_or_alike table firsts nearer farther)
  where
    nearer : List ℕ
    nearer = (some_counts G table).0

    farther : List ℕ
    farther = (some_counts G table).1.0

    firsts : List ℕ
    firsts = firsts_of table G.size

    irregular : (p : ℕ) × IsFirstUnlike table firsts nearer farther p → (answer : ArrayAnswer) × IsGraphAnswer G answer
    irregular s =
        let p = s.0 in
        let q = get_or firsts (get_or table p 0) 0 in (
          Irregular (q / G.size) (q % G.size) (p / G.size) (p % G.size),
          IsIrregularAt-from_place G table nearer farther firsts one d (some_counts G table).1.1 (AreFirstPlaces-firsts_of table G.size d.small) p q s.1 refl,
        )

    regular : ((k : ℕ) → k < length table → IsAlikeAt table firsts nearer farther k) → (answer : ArrayAnswer) × IsGraphAnswer G answer
    regular alike =
        let g = greatest_place (λ k. get_or table k 0) (length table) (omega (arith, d.len, place_below G.size 0 0 one one)) in
        let m = get_or table g.0 0 in (
          Array (map (λ place. get_or farther place 0) (take m firsts)) (map (λ place. get_or nearer place 0) (take m (drop 1 firsts))),
          HasArray-from_tables G table nearer farther firsts one d (some_counts G table).1.1 (AreFirstPlaces-firsts_of table G.size d.small)
              m (length-map-range_with_len _ 0 G.size) g.2 (g.0, g.1, refl) alike,
        )

pub graph_answer : (G : Graph) → FitsGraph G → (answer : ArrayAnswer) × IsGraphAnswer G answer
graph_answer G f = ⊎_elim disconnected connected (first_below none (length table))
  where
    table : List ℕ
    table = (some_table G f).0

    none : ℕ → Bool
    none p = get_or table p 0 == UNREACHED

    disconnected : (p : ℕ) × IsFirstBelow none (length table) p → (answer : ArrayAnswer) × IsGraphAnswer G answer
    disconnected s = (
      Disconnected (s.0 / G.size) (s.0 % G.size),
      IsDisconnectedAt-from_table G table f.has_points (some_table G f).1 s.0 s.1.low (eqb-true (get_or table s.0 0) UNREACHED s.1.passes)
          (λ k l e. both_ways (none k) (s.1.before k l) (eq-eqb (get_or table k 0) UNREACHED e)),
    )

    connected : ((k : ℕ) → k < length table → none k ≡ false) → (answer : ArrayAnswer) × IsGraphAnswer G answer
    connected all = connected_answer G table f.has_points
        (AreDistances-from_table G table f.has_points (some_table G f).1 (λ k l e. both_ways (none k) (all k l) (eq-eqb (get_or table k 0) UNREACHED e)))

-- a set of colours is that of a graph or not
pub graph_set_or_not : (C : PairColouring) → IsColouring C → (S : List ℕ) → IsGraphSet C S ⊎ ¬ IsGraphSet C S
graph_set_or_not C h S = ⊎_elim
    (λ e. inr (λ g. g.chosen (nil_from_length S e)))
    (λ ne. ⊎_elim
    (λ edges. inl (record { chosen = λ e. ne (ap length e); edges = edges }))
    (λ not. inr (λ g. not g.edges))
    (edge_set_or_not C h S))
    (cases_eq (length S) 0)

FitsGraph-graph_of : (C : PairColouring) → FitsColouring C → (S : List ℕ) → FitsGraph (graph_of C S)
FitsGraph-graph_of C f S = record {
  has_points = f.colouring.has_points;
  limit = f.limit;
  has_pairs = length-map C.colours _ ∙ f.colouring.has_pairs;
}

pub answer_exists : (C : PairColouring) → FitsColouring C → (S : List ℕ)
    → (¬ IsGraphSet C S) ⊎ (IsGraphSet C S × ((answer : ArrayAnswer) × IsArrayAnswer C S answer))
answer_exists C f S = ⊎_elim
    (λ g. inr (g, graph_answer (graph_of C S) (FitsGraph-graph_of C f S)))
    (λ not. inl not)
    (graph_set_or_not C f.colouring S)
