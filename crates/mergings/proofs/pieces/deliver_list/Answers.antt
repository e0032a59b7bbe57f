use Rattle.mergings.proofs.ListParts.{front_moved, all_moved}
use Rattle.mergings.proofs.pieces.deliver_list.Goals as goal

pub returns-in_err-deliver_rest-clause-front : goal.returns-in_err-deliver_rest-clause-front
returns-in_err-deliver_rest-clause-front g c = front_moved _ _ _ _ _ _ (rw c.in-Some.is at c.in_ok-next.ensures.next) c.in_err-deliver_rest.ensures.front

pub returns-clause-front : goal.returns-clause-front
returns-clause-front g c = front_moved _ _ _ _ _ _ (rw c.in-Some.is at c.in_ok-next.ensures.next) c.in_ok-deliver_rest.ensures.front

pub returns-clause-all : goal.returns-clause-all
returns-clause-all g c = all_moved _ _ _ _ _ _ (rw c.in-Some.is at c.in_ok-next.ensures.next) _ _ c.in_ok-next.ensures.room c.in_ok-deliver_rest.ensures.all
