-- The members of a list that have a property: there is one list of them, and it is known by its members.
use Rattle.std.proofs.Common.{◌≡◌, ◌⊎◌, Bool, true, false, cond, List, [], ◌∷◌, ◌++◌, filter, Decides, inl, inr, ⊎_elim, refl, sym, ap, subst, ◌∙◌, append-nil}
use Rattle.pair_colours.specs.Those.{AreThose}
use Rattle.pair_colours.proofs.SortedLists.{In, Ordered, each_in, each_from_in}

-- there is only one
pub those_unique : {X : Type 0} (P : X → Type 0) (all xs ys : List X) → AreThose P all xs → AreThose P all ys → xs ≡ ys
those_unique P [] xs ys a b = a ∙ sym b
those_unique P (x ∷ all) xs ys a b = ⊎_elim
    (λ k. ⊎_elim
    (λ l. k.2 ∙ ap (λ rest. x ∷ rest) (those_unique P all k.0 l.0 k.3 l.3) ∙ sym l.2)
    (λ l. absurd (l.0 k.1))
    b)
    (λ k. ⊎_elim
    (λ l. absurd (k.0 l.1))
    (λ l. those_unique P all xs ys k.1 l.1)
    b)
    a

-- there is one where each member has the property or not
pub those_exist : {X : Type 0} (P : X → Type 0) (all : List X) → ((x : X) → In x all → P x ⊎ (P x → ⊥)) → (xs : List X) × AreThose P all xs
those_exist P [] d = ([], refl)
those_exist P (x ∷ all) d =
    let again = those_exist P all (λ y i. d y (inr i)) in
    ⊎_elim (λ p. (x ∷ again.0, inl (again.0, p, refl, again.1))) (λ np. (again.0, inr (np, again.1))) (d x (inl refl))

-- for a property that comes to the same
pub those_same : {X : Type 0} (P Q : X → Type 0) (all xs : List X) → ((x : X) → In x all → (P x → Q x) × (Q x → P x)) → AreThose P all xs → AreThose Q all xs
those_same P Q [] xs h a = a
those_same P Q (x ∷ all) xs h a = ⊎_elim
    (λ k. inl (k.0, (h x (inl refl)).0 k.1, k.2, those_same P Q all k.0 (λ y i. h y (inr i)) k.3))
    (λ k. inr (λ q. k.0 ((h x (inl refl)).1 q), those_same P Q all xs (λ y i. h y (inr i)) k.1))
    a

pub those_append : {X : Type 0} (P : X → Type 0) (all more xs ys : List X) → AreThose P all xs → AreThose P more ys → AreThose P (all ++ more) (xs ++ ys)
those_append P [] more xs ys a b = subst (λ l. AreThose P more (l ++ ys)) (sym a) b
those_append P (x ∷ all) more xs ys a b = ⊎_elim
    (λ k. inl (k.0 ++ ys, k.1, ap (λ l. l ++ ys) k.2, those_append P all more k.0 ys k.3 b))
    (λ k. inr (k.0, those_append P all more xs ys k.1 b))
    a

-- the steps of a loop over the list
pub those_push_yes : {X : Type 0} (P : X → Type 0) (all xs : List X) (x : X) → AreThose P all xs → P x → AreThose P (all ++ x ∷ []) (xs ++ x ∷ [])
those_push_yes P all xs x a p = those_append P all (x ∷ []) xs (x ∷ []) a (inl ([], p, refl, refl))

pub those_push_no : {X : Type 0} (P : X → Type 0) (all xs : List X) (x : X) → AreThose P all xs → (P x → ⊥) → AreThose P (all ++ x ∷ []) xs
those_push_no P all xs x a p = subst (AreThose P (all ++ x ∷ [])) (append-nil xs) (those_append P all (x ∷ []) xs [] a (inr (p, refl)))

-- where no member has the property
pub those_none : {X : Type 0} (P : X → Type 0) (all : List X) → ((x : X) → In x all → P x → ⊥) → AreThose P all []
those_none P [] h = refl
those_none P (x ∷ all) h = inr (h x (inl refl), those_none P all (λ y i. h y (inr i)))

-- where a test decides the property, they are what passes it
pub those_filter : {X : Type 0} (P : X → Type 0) (test : X → Bool) → ((x : X) → Decides (test x) (P x)) → (all : List X) → AreThose P all (filter test all)
those_filter P test d [] = refl
those_filter {X} P test d (x ∷ all) = by (test x) (d x) (those_filter P test d all)
  where
    by : (b : Bool) → Decides b (P x) → AreThose P all (filter test all) → AreThose P (x ∷ all) (cond b (x ∷ filter test all) (filter test all))
    by true t again = inl (filter test all, t.0 refl, refl, again)
    by false t again = inr (λ p. let z : false ≡ true = t.1 p in cc, again)

-- each of them has the property and is in the list, and each member that has it is one of them
pub those_hold : {X : Type 0} (P : X → Type 0) (all xs : List X) → AreThose P all xs → (x : X) → In x xs → P x × In x all
those_hold P [] xs a x i = absurd (subst (In x) a i)
those_hold P (y ∷ all) xs a x i = ⊎_elim
    (λ k. ⊎_elim
    (λ e. (subst P (sym e) k.1, inl e))
    (λ j. let r = those_hold P all k.0 k.3 x j in (r.0, inr r.1))
    (subst (In x) k.2 i))
    (λ k. let r = those_hold P all xs k.1 x i in (r.0, inr r.1))
    a

pub those_has : {X : Type 0} (P : X → Type 0) (all xs : List X) → AreThose P all xs → (x : X) → In x all → P x → In x xs
those_has P [] xs a x i p = absurd i
those_has P (y ∷ all) xs a x i p = ⊎_elim
    (λ k. subst (In x) (sym k.2) (⊎_elim inl (λ j. inr (those_has P all k.0 k.3 x j p)) i))
    (λ k. ⊎_elim (λ e. absurd (k.0 (subst P e p))) (λ j. those_has P all xs k.1 x j p) i)
    a

-- they stand in the order of the list
pub those_in_order : {X : Type 0} (R : X → X → Type 0) (P : X → Type 0) (all xs : List X) → Ordered R all → AreThose P all xs → Ordered R xs
those_in_order R P [] xs o a = subst (Ordered R) (sym a) tt
those_in_order R P (y ∷ all) xs o a = ⊎_elim
    (λ k. subst (Ordered R) (sym k.2) (each_from_in (R y) k.0 (λ x i. each_in (R y) all o.0 x (those_hold P all k.0 k.3 x i).1), those_in_order R P all k.0 o.1 k.3))
    (λ k. those_in_order R P all xs o.1 k.1)
    a
