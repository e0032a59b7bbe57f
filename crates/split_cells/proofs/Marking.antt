-- Marks on the pairs of a class, made over the class of their transposed pairs.
use Rattle.std.proofs.Common.{◌≡◌, ◌≢◌, ◌==◌, ℕ, ◌+◌, ◌*◌, ◌/◌, ◌%◌, ◌<◌, ◌≤◌, if◌then◌else◌, List, length, get_or, set, ⊎_elim, refl, sym, ap, subst, ◌∙◌, arith}
use Rattle.std.proofs.lemmas.Bool.{cases_eq, eq-eqb, ne_eqb}
use Rattle.std.proofs.lemmas.List.{length-set}
use Rattle.std.proofs.lemmas.Nat.{div-add-mod', div-mul-add, mod-mul-add}
use Rattle.pair_colours.proofs.Places.{row_below}
use Rattle.split_cells.specs.declared.classed_pairs.ClassedPairs.{ClassedPairs}
use Rattle.split_cells.specs.Segments.{IsMembers}
use Rattle.split_cells.specs.Grids.{turned_place}
use Rattle.split_cells.specs.Pairs.{IsClassed}
use Rattle.split_cells.specs.Keys.{IsGathered, IsBlank}
use Rattle.split_cells.specs.Marks.{mark_at}
use Rattle.wl_round.proofs.OneWrite.{one_write}
use Rattle.split_cells.proofs.GatherLemmas.{some_size, turned_at, turned_place_in}

-- the marks of the pairs whose transposed pair is among the first a members of the other class
pub record IsMarkedTo (n : ℕ) (class : List ℕ) (k other : ℕ) (at : ℕ → ℕ) (a : ℕ) (counts : List ℕ) : Type 0 where
  pub len : length counts ≡ n * n
  pub done : (q : ℕ) → q < n * n → get_or class q 0 ≡ other → at q < a → get_or counts (turned_place n q) 0 ≡ (if get_or class (turned_place n q) 0 == k then 1 else 0)
  pub rest : (p : ℕ) → p < n * n → (get_or class (turned_place n p) 0 ≡ other → a ≤ at (turned_place n p)) → get_or counts p 0 ≡ 0

-- a transposed pair has the pair as its own
pub turned_twice : (n p : ℕ) → p < n * n → turned_place n (turned_place n p) ≡ p
turned_twice n p l =
    let some = some_size n p l in
    let u = row_below n p some l in
    (λ i. mod-mul-add (p % n) n (p / n) u i * n + div-mul-add (p % n) n (p / n) u i) ∙ div-add-mod' p n

module _ (pairs : ClassedPairs) (h : IsClassed pairs) (k other : ℕ) {at : ℕ → ℕ} {members : List ℕ} (m : IsMembers pairs.parting.class.items other at members) where
  abbrev size : ℕ
  size = pairs.size

  abbrev classes : List ℕ
  classes = pairs.parting.class.items

  all : length classes ≡ size * size
  all = h.parting.classes ∙ h.bound

  pub IsMarkedTo-start : (counts : List ℕ) → IsBlank classes counts → IsMarkedTo size classes k other at 0 counts
  IsMarkedTo-start counts b = record { len = b.len ∙ all; done = λ q l e r. absurd (omega (arith, r)); rest = λ p l r. b.zero_everywhere p }

  module _ (a : ℕ) (l : a < length members) (counts : List ℕ) (i : IsMarkedTo size classes k other at a counts) where
    abbrev q : ℕ
    q = get_or members a 0

    q_in : q < size * size
    q_in = omega (arith, m.inside a l, all)

    -- the next one is not counted yet
    pub IsMarkedTo-fresh : (p : ℕ) → p ≡ turned_place size q → (p < length counts) × (get_or counts p 0 ≡ 0)
    IsMarkedTo-fresh p e =
        let inside = turned_place_in size q q_in in
        let back : turned_place size p ≡ q = ap (turned_place size) e ∙ turned_twice size q q_in in
        (omega (arith, inside, e, i.len), i.rest p (omega (arith, inside, e)) (λ _. let f : at (turned_place size p) ≡ a = ap at back ∙ m.back a l in omega (arith, f)))

    pub IsMarkedTo-more : (p v : ℕ) (new : List ℕ) → p ≡ turned_place size q → v ≡ (if get_or classes p 0 == k then 1 else 0) → new ≡ set counts p v → IsMarkedTo size classes k other at (a + 1) new
    IsMarkedTo-more p v new e ev written =
        let fresh = IsMarkedTo-fresh p e in
        subst (IsMarkedTo size classes k other at (a + 1)) (sym written) (record {
          len = length-set counts p v ∙ i.len;
          done = λ r lr er b. one_write (λ w. w ≡ (if get_or classes (turned_place size r) 0 == k then 1 else 0)) counts p v (turned_place size r) fresh.0
              (λ s. ev ∙ ap (λ w. if get_or classes w 0 == k then 1 else 0) (sym s))
              (λ ne.
              let o : (at r ≡ a → ⊥) = λ f. ne (ap (turned_place size) (sym (m.is r (omega (arith, lr, all)) er) ∙ ap (λ w. get_or members w 0) f) ∙ sym e) in
              i.done r lr er (omega (arith, b, o)));
          rest = λ r lr far. one_write (λ w. w ≡ 0) counts p v r fresh.0
              (λ s.
              let back : turned_place size r ≡ q = ap (turned_place size) (s ∙ e) ∙ turned_twice size q q_in in
              let b = far (ap (λ w. get_or classes w 0) back ∙ m.member a l) in
              let f : at (turned_place size r) ≡ a = ap at back ∙ m.back a l in
              absurd (omega (arith, b, f)))
              (λ _. i.rest r lr (λ s. let b = far s in omega (arith, b)));
        })

  pub IsGathered-marked : (a : ℕ) (counts : List ℕ) → length members ≤ a → IsMarkedTo size classes k other at a counts → IsGathered classes k (mark_at pairs other) counts
  IsGathered-marked a counts end i = record {
    len = i.len ∙ sym all;
    inside = λ p l e. at_pair p (omega (arith, l, all))
        (λ f. ap (λ b. if b then 1 else 0) (eq-eqb _ _ e) ∙ sym (ap (λ b. if b then 1 else 0) (eq-eqb _ _ f)))
        (λ ne. sym (ap (λ b. if b then 1 else 0) (ne_eqb _ _ ne)));
    outside = λ p l out. at_pair p (omega (arith, l, all)) (λ f. ap (λ b. if b then 1 else 0) (ne_eqb _ _ out)) (λ ne. refl);
  }
    where
      -- a pair whose transposed pair is in the class has been looked at, and no other
      at_pair : {v : ℕ} (p : ℕ) → p < size * size → (get_or pairs.turned.items p 0 ≡ other → (if get_or classes p 0 == k then 1 else 0) ≡ v) → (get_or pairs.turned.items p 0 ≢ other → 0 ≡ v) → get_or counts p 0 ≡ v
      at_pair p l hit miss =
          let t = turned_at size classes pairs.turned.items h.turned (some_size size p l) p l in
          let twice = turned_twice size p l in
          let inside = turned_place_in size p l in
          ⊎_elim
          (λ f.
          let there : get_or classes (turned_place size p) 0 ≡ other = sym t ∙ f in
          let done = i.done (turned_place size p) inside there (omega (arith, m.listed (turned_place size p) (omega (arith, inside, all)) there, end)) in
          ap (λ w. get_or counts w 0) (sym twice) ∙ done ∙ ap (λ w. if get_or classes w 0 == k then 1 else 0) twice ∙ hit f)
          (λ ne. i.rest p l (λ s. absurd (ne (t ∙ s))) ∙ miss ne)
          (cases_eq (get_or pairs.turned.items p 0) other)
