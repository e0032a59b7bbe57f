use Rattle.std.proofs.Common.{◌≡◌, ◌*◌, List, ℕ, length, get_or, map, sym, subst, ap, ◌∙◌, arith}
use Rattle.split_cells.specs.Grids.{IsTurned}
use Rattle.split_cells.specs.Sorted.{IsNumbered}
use Rattle.split_cells.specs.Labels.{AreLabels}
use Rattle.split_cells.proofs.CellLemmas.{IsNumbered-partition, IsBlank-zeros}
use Rattle.split_cells.proofs.PartLemmas.{IsUsed-few}
use Rattle.split_cells.proofs.Exchanged.{map_same}
use Rattle.split_cells.proofs.cells.Cells.of.Goals as goal

pub parted-requires-clause-numbered : goal.parted-requires-clause-numbered
parted-requires-clause-numbered c =
    subst (λ (l : List ℕ). IsNumbered l) (sym c.colours-2.ensures.colours) (IsNumbered-partition c.args.colouring.now c.requires)

pub invariant_of-result : goal.invariant_of-result
invariant_of-result c =
    let K = c.args.colouring.now in
    let n = c.in_ok-size.size in
    let class = c.in_ok-parting.parting.class.items in
    let fits = c.size-points.ensures.within in
    let points = c.size-points.ensures.points in
    let same : n ≡ K.size = c.in_ok-size.ensures ∙ points in
    let is : class ≡ K.colours = c.in_ok-parting.ensures.class ∙ c.colours-2.ensures.colours in
    let len : length class ≡ n * n = ap length is ∙ fits.colouring.has_pairs ∙ (λ i. sym same i * sym same i) in
    let size : c.size-points.result ≡ n = sym c.in_ok-size.ensures in
    let labels : AreLabels (n * n) 0 c.in_ok-labels.labels.outer.items c.in_ok-labels.labels.inner.items =
    subst (λ m. AreLabels (m * m) 0 c.in_ok-labels.labels.outer.items c.in_ok-labels.labels.inner.items) size c.in_ok-labels.ensures.labels in
    record {
      shown = record {
        classed = record {
          some = omega (arith, same, fits.colouring.has_points);
          limit = omega (arith, same, fits.limit);
          parting = c.in_ok-parting.ensures.parting;
          bound = sym c.in_ok-parting.ensures.parting.classes ∙ len;
          turned =
              subst (λ m. IsTurned m class c.in_ok-turned.turned.items) size
              (subst (λ (l : List ℕ). IsTurned c.size-points.result l c.in_ok-turned.turned.items) (c.colours.ensures.colours ∙ sym is) c.in_ok-turned.ensures);
        };
        used = c.in_ok-parting.ensures.used;
        numbers = record { inverse = labels.inverse; rest = λ k b l. labels.rest k (omega arith) l };
      };
      blank = IsBlank-zeros class c.in_ok-tally.tally.counts (c.size-points.result * c.size-points.result) (len ∙ (λ i. sym size i * sym size i)) c.in_ok-tally.ensures.counts;
    }

pub returns : goal.returns
returns c =
    let K = c.args.colouring.now in
    let class = c.in_ok-parting.parting.class.items in
    let outer = c.in_ok-labels.labels.outer.items in
    let points = c.size-points.ensures.points in
    let is : class ≡ K.colours = c.in_ok-parting.ensures.class ∙ c.colours-2.ensures.colours in
    let few : length class ≡ c.size-points.result * c.size-points.result =
    ap length is ∙ c.size-points.ensures.within.colouring.has_pairs ∙ (λ i. sym points i * sym points i) in
    let h = c.in_ok-parting.ensures.parting in
    let same : map (λ k. get_or outer k 0) class ≡ class = map_same outer class (λ p l.
    c.in_ok-labels.ensures.same (get_or class p 0)
    (omega (arith, h.class_in p (omega (arith, l, h.classes)), IsUsed-few class c.in_ok-parting.parting.rank c.in_ok-parting.ensures.used, few))) in
    λ i. record { size = (c.in_ok-size.ensures ∙ points) i; colours = (same ∙ is) i }
