-- Quotients and subschemes from colourings of the classes and of the points of a class.
use Rattle.std.proofs.Common.{◌≡◌, ◌↔◌, ℕ, ◌<◌, Bool, length, get_or, sym, subst, ◌∙◌, arith}
use Rattle.pair_colours.specs.Colouring.{PairColouring, Refines, colour_at}
use Rattle.pair_colours.specs.Naming.{named_of}
use Rattle.pair_colours.proofs.Closures.{IsColouring-named_of, named_of-refines, refines-named_of, named_of-named_of}
use Rattle.pair_colours.proofs.Names.{named_of-same}
use Rattle.quotients.specs.Quotient.{MeetSame, classes, class_of, Quotient, Subscheme}
use Rattle.quotients.specs.Steps.{IsPicked}

pub subscheme_from_picked : (K : PairColouring) (S : ℕ → Bool) (x : ℕ) (P : PairColouring) → IsPicked K (class_of K S x) P → Subscheme K S x (named_of P)
subscheme_from_picked K S x P p = record {
  colouring = IsColouring-named_of P p.colouring;
  size = p.size;
  alike = λ s t a b hs ht ha hb.
      let to : (z : ℕ) → z < P.size → z < length (class_of K S x) = λ z l. subst (λ m. z < m) p.size l in (
        λ e. sym (p.is s t (to s hs) (to t ht)) ∙ (named_of-refines P p.colouring).classes s t a b hs ht ha hb e ∙ p.is a b (to a ha) (to b hb),
        λ e. (refines-named_of P p.colouring).classes s t a b hs ht ha hb (p.is s t (to s hs) (to t ht) ∙ e ∙ sym (p.is a b (to a ha) (to b hb))),
      );
  named = named_of-named_of P p.colouring;
}

pub subscheme_is_unique : (K : PairColouring) (S : ℕ → Bool) (x : ℕ) (L M : PairColouring) → Subscheme K S x L → Subscheme K S x M → L ≡ M
subscheme_is_unique K S x L M l m = sym l.named ∙ named_of-same L M l.colouring m.colouring (finer L M l m) (finer M L m l) ∙ m.named
  where
    finer : (L M : PairColouring) → Subscheme K S x L → Subscheme K S x M → Refines L M
    finer L M l m = record {
      sizes = l.size ∙ sym m.size;
      classes = λ s t a b hs ht ha hb e.
          let to : (z : ℕ) → z < L.size → z < M.size = λ z k. omega (arith, k, l.size, m.size) in
          (m.alike s t a b (to s hs) (to t ht) (to a ha) (to b hb)).1 ((l.alike s t a b hs ht ha hb).0 e);
    }

pub quotient_is_unique : (K : PairColouring) (S : ℕ → Bool) (L M : PairColouring) → Quotient K S L → Quotient K S M → L ≡ M
quotient_is_unique K S L M l m = sym l.named ∙ named_of-same L M l.colouring m.colouring (finer L M l m) (finer M L m l) ∙ m.named
  where
    finer : (L M : PairColouring) → Quotient K S L → Quotient K S M → Refines L M
    finer L M l m = record {
      sizes = l.size ∙ sym m.size;
      classes = λ s t a b hs ht ha hb e.
          let to : (z : ℕ) → z < L.size → z < M.size = λ z k. omega (arith, k, l.size, m.size) in
          (m.alike s t a b (to s hs) (to t ht) (to a ha) (to b hb)).1 ((l.alike s t a b hs ht ha hb).0 e);
    }

-- M tells on the least points whether the same colours are met
pub record Tells (K : PairColouring) (S : ℕ → Bool) (M : PairColouring) : Type 0 where
  pub same : (s t a b : ℕ) → s < length (classes K S) → t < length (classes K S) → a < length (classes K S) → b < length (classes K S)
      → colour_at M (get_or (classes K S) s 0) (get_or (classes K S) t 0) ≡ colour_at M (get_or (classes K S) a 0) (get_or (classes K S) b 0)
      ↔ MeetSame K S (get_or (classes K S) s 0) (get_or (classes K S) t 0) (get_or (classes K S) a 0) (get_or (classes K S) b 0)

pub quotient_from_picked : (K : PairColouring) (S : ℕ → Bool) (M P : PairColouring) → Tells K S M → IsPicked M (classes K S) P → Quotient K S (named_of P)
quotient_from_picked K S M P m p = record {
  colouring = IsColouring-named_of P p.colouring;
  size = p.size;
  alike = λ s t a b hs ht ha hb.
      let to : (z : ℕ) → z < P.size → z < length (classes K S) = λ z l. subst (λ n. z < n) p.size l in
      let both = m.same s t a b (to s hs) (to t ht) (to a ha) (to b hb) in (
        λ e. both.0 (sym (p.is s t (to s hs) (to t ht)) ∙ (named_of-refines P p.colouring).classes s t a b hs ht ha hb e ∙ p.is a b (to a ha) (to b hb)),
        λ e. (refines-named_of P p.colouring).classes s t a b hs ht ha hb (p.is s t (to s hs) (to t ht) ∙ both.1 e ∙ sym (p.is a b (to a ha) (to b hb))),
      );
  named = named_of-named_of P p.colouring;
}
