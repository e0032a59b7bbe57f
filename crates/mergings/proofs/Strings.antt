-- Lists of strings that are delivered while there is room.
use Rattle.std.proofs.Common.{◌≡◌, ℕ, ◌+◌, ◌<◌, ◌≤◌, List, [], ◌∷◌, ◌++◌, length, get_or, take, drop, sym, ap, ◌∙◌, arith, append_assoc, take-append-drop, ⊎_elim}
use Rattle.std.proofs.lemmas.Bool.{cases_lt}
use Rattle.std.proofs.lemmas.List.{take_more, length_push}
use Rattle.pair_colours.specs.Those.{AreThose}
use Rattle.mergings.specs.Cuts.{IsDelivered, IsDeliveredWhole}
use Rattle.visitors.specs.declared.visitor.Next.{Next}
use Rattle.visitors.specs.declared.visitor.Next.TheVariants.{More, Stop}
use Rattle.mergings.specs.Listed.{IsFrontAdded}

pub listed_more : (old all mid new : List (List ℕ)) (i : ℕ) (x : List ℕ) → mid ≡ old ++ take i all → new ≡ mid ++ x ∷ [] → i < length all → x ≡ get_or all i [] → new ≡ old ++ take (i + 1) all
listed_more old all mid new i x e f l g =
    f ∙ (λ k. e k ++ g k ∷ []) ∙ append_assoc old (take i all) (get_or all i [] ∷ []) ∙ ap (λ t. old ++ t) (sym (take_more all i [] l))

pub front_added : (old all new : List (List ℕ)) (i : ℕ) → new ≡ old ++ take i all → IsFrontAdded all old new
front_added old all new i e = record {
  missing = drop i all;
  front = ap (λ t. t ++ drop i all) e ∙ append_assoc old (take i all) (drop i all) ∙ ap (λ t. old ++ t) (take-append-drop i all);
}

pub room_left : (mid new : List (List ℕ)) (x : List ℕ) (room : ℕ) (next : Next) → length mid < room → new ≡ mid ++ x ∷ [] → next ≡ More → (length new ≡ room → next ≡ Stop) → length new < room
room_left mid new x room next l e m s = ⊎_elim
    (λ k. k)
    (λ (k : room ≤ length new). let z : More ≡ Stop = sym m ∙ s (omega (arith, k, l, ap length e, length_push mid x)) in absurd (let y = z in cc))
    (cases_lt (length new) room)

pub delivered_list : (P : List ℕ → Type 0) (all listed old new : List (List ℕ)) → AreThose P all listed → IsFrontAdded listed old new → IsDelivered P all old new
delivered_list P all listed old new a f = record { those = listed; are = a; missing = f.missing; front = f.front }

pub delivered_whole : (P : List ℕ → Type 0) (all listed old new : List (List ℕ)) → AreThose P all listed → new ≡ old ++ listed → IsDeliveredWhole P all old new
delivered_whole P all listed old new a e = record { those = listed; are = a; whole = e }
