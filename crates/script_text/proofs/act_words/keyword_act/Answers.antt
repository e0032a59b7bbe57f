use Rattle.std.proofs.Common.{ap}
use Rattle.script_text.specs.Keyword.{spelling}
use Rattle.script_text.proofs.ActWords.{forms_behind, some_forms, point_and_set}
use Rattle.script_text.proofs.act_words.keyword_act.Goals as goal

pub returns-in_ok-numbers-in-Fuse-clause-ok : goal.returns-in_ok-numbers-in-Fuse-clause-ok
returns-in_ok-numbers-in-Fuse-clause-ok c =
    let read = c.in_ok-numbers-in-Fuse.ensures.ok in
    (some_forms c.args.words.now _ (rw c.in-Fuse.is at c.requires.count) read, (ap spelling c.in-Fuse.is, read))

pub returns-in_ok-numbers-in-Array-clause-ok : goal.returns-in_ok-numbers-in-Array-clause-ok
returns-in_ok-numbers-in-Array-clause-ok c =
    let read = c.in_ok-numbers-in-Array.ensures.ok in
    (some_forms c.args.words.now _ (rw c.in-Array.is at c.requires.count) read, (ap spelling c.in-Array.is, read))

pub returns-in_ok-numbers-in-Quotient-clause-ok : goal.returns-in_ok-numbers-in-Quotient-clause-ok
returns-in_ok-numbers-in-Quotient-clause-ok c =
    let read = c.in_ok-numbers-in-Quotient.ensures.ok in
    (some_forms c.args.words.now _ (rw c.in-Quotient.is at c.requires.count) read, (ap spelling c.in-Quotient.is, read))

pub returns-in_ok-numbers-in-Close-clause-ok : goal.returns-in_ok-numbers-in-Close-clause-ok
returns-in_ok-numbers-in-Close-clause-ok c =
    let read = c.in_ok-numbers-in-Close.ensures.ok in
    (some_forms c.args.words.now _ (rw c.in-Close.is at c.requires.count) read, (ap spelling c.in-Close.is, read))

pub returns-in_ok-set-in-Sub-clause-ok : goal.returns-in_ok-set-in-Sub-clause-ok
returns-in_ok-set-in-Sub-clause-ok c =
    let read = point_and_set c.args.words.now _ _ _ (rw c.in-Sub.is at c.requires.count) c.in_ok-x-in-Sub.ensures.ok (forms_behind c.args.words.now 1 _ c.in_ok-set-in-Sub.ensures.ok) in
    (read.0, (ap spelling c.in-Sub.is, read.1))
