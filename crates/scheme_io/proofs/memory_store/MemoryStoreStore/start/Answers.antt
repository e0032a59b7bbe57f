use Rattle.std.proofs.Common.{refl, subst}
use Rattle.scheme_io.specs.Calls.{FailsNext}
use Rattle.scheme_io.specs.Memory.{StoreInMemory}
use Rattle.scheme_io.proofs.memory_store.MemoryStoreStore.start.Goals as goal

pub returns-then-fails-clause-failed : goal.returns-then-fails-clause-failed
returns-then-fails-clause-failed c =
    (λ _. subst (λ (s : StoreInMemory). FailsNext s.failing s.next) c.self.view_is (c.if-fails.ensures.fails.0 refl), λ _. refl)
