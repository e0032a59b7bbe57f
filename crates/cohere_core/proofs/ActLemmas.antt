-- The acts that only ask, and the others.
use Rattle.std.proofs.Common.{◌≡◌, true, List, [], ◌∷◌, Option, Some, None, ⊎_elim, refl, sym, subst, inl, inr, arith}
use Rattle.std.specs.Prelude.{All, Result, Ok, Err, OnErr, MatchOption, option_map, slice_get}
use Rattle.std.proofs.lemmas.Option.{same_Some}
use Rattle.pair_colours.specs.Colouring.{PairColouring, IsRawColouring}
use Rattle.recolour_bench.specs.History.{History}
use Rattle.recolour_bench.specs.Edits as edits
use Rattle.recolour_bench.specs.Steps as steps
use Rattle.script_text.specs.declared.acts.Act.{Act}
use Rattle.script_text.specs.declared.acts.Act.TheVariants.{Set, Both, Fix, Join, Adopt, Fuse, Direct, Wreath, Undo, Redo}
use Rattle.cohere_core.specs.Answer.{Answers, IsHalfway, MoveTakesMemory, Moves, TakesMemory, Tells, move_of}
use Rattle.cohere_core.specs.Products.{HasProduct}
use Rattle.cohere_core.specs.Queries.{is_query}

-- an act that only asks is no edit, undo or redo
pub no_move : (products : List PairColouring) (act : Act) → is_query act ≡ true → move_of products act ≡ None
no_move products (Set x y colour) e = absurd cc
no_move products (Both x y colour) e = absurd cc
no_move products (Fix x) e = absurd cc
no_move products (Join keep gone) e = absurd cc
no_move products Adopt e = absurd cc
no_move products (Fuse string) e = absurd cc
no_move products (Direct file) e = absurd cc
no_move products (Wreath file) e = absurd cc
no_move products Undo e = absurd cc
no_move products Redo e = absurd cc
no_move products act e = refl

-- and one that is none only asks
pub only_asks : (products : List PairColouring) (act : Act) → HasProduct products act → move_of products act ≡ None → is_query act ≡ true
only_asks products (Set x y colour) has e = absurd cc
only_asks products (Both x y colour) has e = absurd cc
only_asks products (Fix x) has e = absurd cc
only_asks products (Join keep gone) has e = absurd cc
only_asks products Adopt has e = absurd cc
only_asks products (Fuse string) has e = absurd cc
only_asks [] (Direct file) has e = absurd (omega (arith, has.first refl))
only_asks (C ∷ products) (Direct file) has e = absurd cc
only_asks [] (Wreath file) has e = absurd (omega (arith, has.first refl))
only_asks (C ∷ products) (Wreath file) has e = absurd cc
only_asks products Undo has e = absurd cc
only_asks products Redo has e = absurd cc
only_asks products act has e = refl

-- a move that names the first of the products names one with colours within the limits
first_is_raw : (make : PairColouring → edits.Edit) (products : List PairColouring) (move : steps.Move) → All IsRawColouring products → ((C : PairColouring) → IsRawColouring C → steps.IsRawMove (steps.edits (make C)))
    → option_map (λ other. steps.edits (make other)) (slice_get products 0) ≡ Some move → steps.IsRawMove move
first_is_raw make [] move raw makes e = absurd cc
first_is_raw make (C ∷ products) move raw makes e = subst steps.IsRawMove (same_Some (steps.edits (make C)) move e) (makes C (raw 0 C (omega arith)))

pub move_is_raw : (products : List PairColouring) (act : Act) (move : steps.Move) → All IsRawColouring products → move_of products act ≡ Some move → steps.IsRawMove move
move_is_raw products (Set x y colour) move raw e = subst steps.IsRawMove (same_Some _ move e) tt
move_is_raw products (Both x y colour) move raw e = subst steps.IsRawMove (same_Some _ move e) tt
move_is_raw products (Fix x) move raw e = subst steps.IsRawMove (same_Some _ move e) tt
move_is_raw products (Join keep gone) move raw e = subst steps.IsRawMove (same_Some _ move e) tt
move_is_raw products Adopt move raw e = subst steps.IsRawMove (same_Some _ move e) tt
move_is_raw products (Fuse string) move raw e = subst steps.IsRawMove (same_Some _ move e) tt
move_is_raw products (Direct file) move raw e = first_is_raw edits.Direct products move raw (λ C r. r) e
move_is_raw products (Wreath file) move raw e = first_is_raw edits.Wreath products move raw (λ C r. r) e
move_is_raw products Undo move raw e = subst steps.IsRawMove (same_Some _ move e) tt
move_is_raw products Redo move raw e = subst steps.IsRawMove (same_Some _ move e) tt
move_is_raw products act move raw e = absurd cc

-- what only asks may take memory
asking_takes_memory : (act : Act) → is_query act ≡ true → TakesMemory act
asking_takes_memory Undo e = absurd cc
asking_takes_memory Redo e = absurd cc
asking_takes_memory act e = tt

move_takes_memory : (products : List PairColouring) (act : Act) (move : steps.Move) → move_of products act ≡ Some move → MoveTakesMemory move → TakesMemory act
move_takes_memory products Undo move e takes = subst MoveTakesMemory (sym (same_Some steps.undoes move e)) takes
move_takes_memory products Redo move e takes = subst MoveTakesMemory (sym (same_Some steps.redoes move e)) takes
move_takes_memory products act move e takes = tt

-- a question that was not answered
pub query_unanswered : {T E : Type 0} (result : Result T E) (h : History) (products : List PairColouring) (act : Act) → is_query act ≡ true
    → OnErr result (IsHalfway (TakesMemory act) h h (Answers h products act h))
query_unanswered (Ok text) h products act asks = tt
query_unanswered (Err wanting) h products act asks = inl (asking_takes_memory act asks, refl)

-- an edit, an undo or a redo that was not answered
pub move_unanswered : {T E : Type 0} (result : Result T E) (h next : History) (products : List PairColouring) (act : Act) (move : steps.Move) → move_of products act ≡ Some move
    → OnErr result (IsHalfway (MoveTakesMemory move) h next (Moves h move next)) → OnErr result (IsHalfway (TakesMemory act) h next (Answers h products act next))
move_unanswered (Ok text) h next products act move is halfway = tt
move_unanswered (Err wanting) h next products act move is halfway =
    ⊎_elim
    (λ before. inl (move_takes_memory products act move is before.0, before.1))
    (λ after. inr (after.0, subst (λ (m : Option steps.Move). MatchOption m ((next ≡ h) × Tells h act after.0) (λ move. Moves h move next after.0)) (sym is) after.1))
    halfway
