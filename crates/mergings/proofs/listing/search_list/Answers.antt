use Rattle.mergings.proofs.ListParts.{front_of_list, cut_of_list}
use Rattle.mergings.proofs.listing.search_list.Goals as goal

pub returns-in_err-deliver_list-clause-front : goal.returns-in_err-deliver_list-clause-front
returns-in_err-deliver_list-clause-front g c = front_of_list _ _ _ c.requires.empty c.in_err-deliver_list.ensures.front

pub returns-clause-cut : goal.returns-clause-cut
returns-clause-cut g c = cut_of_list _ _ _ _ c.requires.empty c.in_ok-deliver_list.ensures.all

pub returns-clause-front : goal.returns-clause-front
returns-clause-front g c = front_of_list _ _ _ c.requires.empty c.in_ok-deliver_list.ensures.front
