use Rattle.std.proofs.Common.{◌≡◌, ◌+◌, ◌*◌}
use Rattle.products.specs.Steps.{label_of}
use Rattle.products.proofs.Filling.{IsFilledTo}
use Rattle.products.proofs.labelling.labels.Given as goal

abbrev pub invariant-loop-q : goal.invariant-loop-q
invariant-loop-q l = record {
  size : l.size ≡ l.a.size * l.b.size;
  first : IsFilledTo l.size (λ p q. (label_of l.kind l.a l.b p q).0) l.first (l.p * l.size + l.q);
  second : IsFilledTo l.size (λ p q. (label_of l.kind l.a l.b p q).1) l.second (l.p * l.size + l.q);
}

abbrev pub invariant-loop-p : goal.invariant-loop-p
invariant-loop-p l = record {
  size : l.size ≡ l.a.size * l.b.size;
  first : IsFilledTo l.size (λ p q. (label_of l.kind l.a l.b p q).0) l.first (l.p * l.size);
  second : IsFilledTo l.size (λ p q. (label_of l.kind l.a l.b p q).1) l.second (l.p * l.size);
}
