-- The lines of the triples at which a number is not 0, row by row and level by level.
use Rattle.std.proofs.Common.{◌≡◌, ℕ, ◌+◌, Bool, true, false, cond, List, [], ◌∷◌, ◌++◌, map, filter, length, sym, ap, ◌∙◌, append_assoc, arith}
use Rattle.std.specs.List.{flat_map}
use Rattle.std.proofs.lemmas.Bool.{lt-ltb, le-ltb}
use Rattle.std.proofs.lemmas.List.{append-nil, length-append}
use Rattle.std.proofs.lemmas.List.Elements.{filter-append}
use Rattle.std.proofs.lemmas.List.FromFn.{map-range_with_len_more}
use Rattle.std.proofs.lemmas.Grind.{flat_map-append}
use Rattle.pair_colours.specs.Colouring.{points}
use Rattle.pair_colours.proofs.Counts.{points_more}
use Rattle.array_tables.specs.Parameters.{IntersectionArray, number_of}
use Rattle.neighbour_answers.specs.TableAnswer.{is_nonzero_in}

module _ {X : Type 0} (p : X → Bool) where
  -- those of one more part
  pub part_kept : (f : ℕ → List X) (n : ℕ) → filter p (flat_map f (points (n + 1))) ≡ filter p (flat_map f (points n)) ++ filter p (f n)
  part_kept f n =
      ap (λ ks. filter p (flat_map f ks)) (points_more n)
      ∙ ap (filter p) (flat_map-append f (points n) (n ∷ []) ∙ ap (λ l. flat_map f (points n) ++ l) (append-nil (f n)))
      ∙ filter-append p (flat_map f (points n)) (f n)

  -- and one more element
  pub one_kept : (f : ℕ → X) (n : ℕ) → filter p (map f (points (n + 1))) ≡ filter p (map f (points n)) ++ filter p (f n ∷ [])
  one_kept f n = ap (filter p) (map-range_with_len_more f 0 n n (omega arith)) ∙ filter-append p (map f (points n)) (f n ∷ [])

  -- an element that passes, and one that does not
  kept : (t : X) → p t ≡ true → filter p (t ∷ []) ≡ t ∷ []
  kept t e = ap (λ b. cond b (t ∷ []) []) e

  dropped : (t : X) → p t ≡ false → filter p (t ∷ []) ≡ []
  dropped t e = ap (λ b. cond b (t ∷ []) []) e

  pub kept_counts : (t : X) → p t ≡ true → 1 ≡ length (filter p (t ∷ []))
  kept_counts t e = sym (ap length (kept t e))

  pub dropped_counts : (t : X) → p t ≡ false → 0 ≡ length (filter p (t ∷ []))
  dropped_counts t e = sym (ap length (dropped t e))

  pub kept_line : (line : X → List ℕ) (old new : List ℕ) (t : X) → p t ≡ true → new ≡ old ++ line t → new ≡ old ++ flat_map line (filter p (t ∷ []))
  kept_line line old new t e after =
      after ∙ ap (λ text. old ++ text) (sym (append-nil (line t))) ∙ ap (λ ts. old ++ flat_map line ts) (sym (kept t e))

  pub dropped_line : (line : X → List ℕ) (old : List ℕ) (t : X) → p t ≡ false → old ≡ old ++ flat_map line (filter p (t ∷ []))
  dropped_line line old t e = sym (append-nil old) ∙ ap (λ ts. old ++ flat_map line ts) (sym (dropped t e))

  -- how many
  pub parts_counted : (f : ℕ → List X) (n old new more : ℕ) → old ≡ length (filter p (flat_map f (points n))) → more ≡ length (filter p (f n))
      → new ≡ old + more → new ≡ length (filter p (flat_map f (points (n + 1))))
  parts_counted f n old new more before part after =
      omega (arith, before, part, after, ap length (part_kept f n), length-append (filter p (flat_map f (points n))) (filter p (f n)))

  pub ones_counted : (f : ℕ → X) (n old new more : ℕ) → old ≡ length (filter p (map f (points n))) → more ≡ length (filter p (f n ∷ []))
      → new ≡ old + more → new ≡ length (filter p (map f (points (n + 1))))
  ones_counted f n old new more before part after =
      omega (arith, before, part, after, ap length (one_kept f n), length-append (filter p (map f (points n))) (filter p (f n ∷ [])))

  -- and their lines
  module _ (line : X → List ℕ) (start old new : List ℕ) where
    lines_after : (front more : List X) → old ≡ start ++ flat_map line front → new ≡ old ++ flat_map line more → new ≡ start ++ flat_map line (front ++ more)
    lines_after front more before after =
        after ∙ ap (λ text. text ++ flat_map line more) before
        ∙ append_assoc start (flat_map line front) (flat_map line more)
        ∙ ap (λ text. start ++ text) (sym (flat_map-append line front more))

    pub parts_written : (f : ℕ → List X) (n : ℕ) → old ≡ start ++ flat_map line (filter p (flat_map f (points n))) → new ≡ old ++ flat_map line (filter p (f n))
        → new ≡ start ++ flat_map line (filter p (flat_map f (points (n + 1))))
    parts_written f n before after =
        lines_after (filter p (flat_map f (points n))) (filter p (f n)) before after ∙ ap (λ ts. start ++ flat_map line ts) (sym (part_kept f n))

    pub ones_written : (f : ℕ → X) (n : ℕ) → old ≡ start ++ flat_map line (filter p (map f (points n))) → new ≡ old ++ flat_map line (filter p (f n ∷ []))
        → new ≡ start ++ flat_map line (filter p (map f (points (n + 1))))
    ones_written f n before after =
        lines_after (filter p (map f (points n))) (filter p (f n ∷ [])) before after ∙ ap (λ ts. start ++ flat_map line ts) (sym (one_kept f n))

-- whether a number is 0
pub nonzero_is : (A : IntersectionArray) (k i j number : ℕ) → number ≡ number_of A i j k → (number ≡ 0 → ⊥) → is_nonzero_in A (k, i, j) ≡ true
nonzero_is A k i j number is n = lt-ltb 0 (number_of A i j k) (omega (arith, is, n))

pub zero_is : (A : IntersectionArray) (k i j number : ℕ) → number ≡ number_of A i j k → number ≡ 0 → is_nonzero_in A (k, i, j) ≡ false
zero_is A k i j number is z = le-ltb 0 (number_of A i j k) (omega (arith, is, z))
