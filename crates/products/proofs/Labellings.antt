-- Named labellings: there is one of each labelling, a meet gives it, and its classes are those of the numbered labels.
use Rattle.std.proofs.Common.{◌≡◌, ℕ, ◌<◌, ◌≤◌, sym, ap, subst, refl, ◌∙◌, arith}
use Rattle.pair_colours.specs.Colouring.{PairColouring, IsColouring, Refines, colour_at}
use Rattle.pair_colours.specs.Closure.{Coherent}
use Rattle.pair_colours.specs.Naming.{named_of, IsNamedMeet}
use Rattle.pair_colours.proofs.Closures.{IsColouring-named_of, named_of-refines, refines-named_of, named_of-named_of, Coherent-same}
use Rattle.pair_colours.proofs.Exists.{by_pairs, colour_at-by_pairs, IsColouring-by_pairs}
use Rattle.pair_colours.proofs.Names.{named_of-same}
use Rattle.products.specs.Product.{IsNamedLabelling}
use Rattle.products.specs.Steps.{AreParts}
use Rattle.products.proofs.Numbers.{number_of, number_of-one}

-- the labels as numbers
abbrev pub numbered : ℕ → (ℕ → ℕ → ℕ × ℕ) → PairColouring
numbered n label = by_pairs n (λ p q. number_of (label p q))

pub numbered_at : (n : ℕ) (label : ℕ → ℕ → ℕ × ℕ) (p q : ℕ) → p < n → q < n → colour_at (numbered n label) p q ≡ number_of (label p q)
numbered_at n label = colour_at-by_pairs n (λ p q. number_of (label p q))

pub label_from_number : (n : ℕ) (label : ℕ → ℕ → ℕ × ℕ) (p q r s : ℕ) → p < n → q < n → r < n → s < n
    → colour_at (numbered n label) p q ≡ colour_at (numbered n label) r s → label p q ≡ label r s
label_from_number n label p q r s hp hq hr hs e =
    number_of-one (label p q) (label r s) (sym (numbered_at n label p q hp hq) ∙ e ∙ numbered_at n label r s hr hs)

pub number_from_label : (n : ℕ) (label : ℕ → ℕ → ℕ × ℕ) (p q r s : ℕ) → p < n → q < n → r < n → s < n
    → label p q ≡ label r s → colour_at (numbered n label) p q ≡ colour_at (numbered n label) r s
number_from_label n label p q r s hp hq hr hs e = numbered_at n label p q hp hq ∙ ap number_of e ∙ sym (numbered_at n label r s hr hs)

pub labelling_exists : (n : ℕ) (label : ℕ → ℕ → ℕ × ℕ) → 1 ≤ n → (P : PairColouring) × IsNamedLabelling n label P
labelling_exists n label h =
    let N = numbered n label in
    let c : IsColouring N = IsColouring-by_pairs n (λ p q. number_of (label p q)) h in (
      named_of N,
      record {
        colouring = IsColouring-named_of N c;
        size = refl;
        alike = λ p q r s hp hq hr hs. (
          λ e. label_from_number n label p q r s hp hq hr hs ((named_of-refines N c).classes p q r s hp hq hr hs e),
          λ e. (refines-named_of N c).classes p q r s hp hq hr hs (number_from_label n label p q r s hp hq hr hs e),
        );
        named = named_of-named_of N c;
      },
    )

pub labelling_is_unique : (n : ℕ) (label : ℕ → ℕ → ℕ × ℕ) (P Q : PairColouring) → IsNamedLabelling n label P → IsNamedLabelling n label Q → P ≡ Q
labelling_is_unique n label P Q p q =
    sym p.named ∙ named_of-same P Q p.colouring q.colouring (finer P Q p q) (finer Q P q p) ∙ q.named
  where
    finer : (P Q : PairColouring) → IsNamedLabelling n label P → IsNamedLabelling n label Q → Refines P Q
    finer P Q p q = record {
      sizes = p.size ∙ sym q.size;
      classes = λ x y u v hx hy hu hv e.
          let to : (z : ℕ) → z < P.size → z < n = λ z l. omega (arith, l, p.size) in
          (q.alike x y u v (to x hx) (to y hy) (to u hu) (to v hv)).1 ((p.alike x y u v (to x hx) (to y hy) (to u hu) (to v hv)).0 e);
    }

-- where the numbered labels are coherent, so is the naming
pub labelling_is_coherent : (n : ℕ) (label : ℕ → ℕ → ℕ × ℕ) (P : PairColouring) → IsNamedLabelling n label P → Coherent (numbered n label) → Coherent P
labelling_is_coherent n label P p h =
    Coherent-same (numbered n label) P (IsColouring-by_pairs n (λ p q. number_of (label p q)) (subst (λ m. 1 ≤ m) p.size p.colouring.has_points)) h
    (record {
      sizes = sym p.size;
      classes = λ x y u v hx hy hu hv e. (p.alike x y u v hx hy hu hv).1 (label_from_number n label x y u v hx hy hu hv e);
    })
    (record {
      sizes = p.size;
      classes = λ x y u v hx hy hu hv e.
          let to : (z : ℕ) → z < P.size → z < n = λ z l. omega (arith, l, p.size) in
          number_from_label n label x y u v (to x hx) (to y hy) (to u hu) (to v hv) ((p.alike x y u v (to x hx) (to y hy) (to u hu) (to v hv)).0 e);
    })

-- the meet of the two parts of the labels
pub labelling_from_meet : (n : ℕ) (label : ℕ → ℕ → ℕ × ℕ) (L M P : PairColouring) → AreParts n label L M → IsNamedMeet L M P → IsNamedLabelling n label P
labelling_from_meet n label L M P parts m = record {
  colouring = m.colouring;
  size = m.first.sizes ∙ parts.left_size;
  alike = λ p q r s hp hq hr hs. (
    λ e.
        let first = sym (parts.first p q hp hq) ∙ m.first.classes p q r s (to p hp) (to q hq) (to r hr) (to s hs) e ∙ parts.first r s hr hs in
        let second = sym (parts.second p q hp hq) ∙ m.second.classes p q r s (to p hp) (to q hq) (to r hr) (to s hs) e ∙ parts.second r s hr hs in
        λ i. (first i, second i),
    λ e.
        m.together p q r s (to p hp) (to q hq) (to r hr) (to s hs)
        (parts.first p q hp hq ∙ ap (λ w. w.0) e ∙ sym (parts.first r s hr hs))
        (parts.second p q hp hq ∙ ap (λ w. w.1) e ∙ sym (parts.second r s hr hs)),
  );
  named = m.named;
}
  where
    to : (z : ℕ) → z < n → z < P.size
    to z l = omega (arith, l, m.first.sizes, parts.left_size)
