-- The list in pieces, each resumed after the last string of the one before it.
use Rattle.std.proofs.Common.{◌≡◌, ℕ, zero, suc, ◌+◌, ◌<◌, ◌≤◌, List, [], ◌∷◌, ◌++◌, length, take, drop, get_or, All, Option, None, Some, Bor, inl, inr, ⊎_elim, refl, sym, ap, subst, ◌∙◌, arith, append_assoc, take-append-drop}
use Rattle.std.proofs.lemmas.List.{take_all, take_at, take_more, get_or_default}
use Rattle.pair_colours.specs.Colouring.{PairColouring}
use Rattle.pair_colours.specs.Naming.{rank_of}
use Rattle.pair_colours.specs.Those.{AreThose}
use Rattle.pair_colours.proofs.SortedLists.{In, In-append_right, In-append_cases, Ordered, each_in}
use Rattle.pair_colours.proofs.ThoseLemmas.{those_hold, those_has, those_in_order, those_unique, those_same}
use Rattle.struct_consts.specs.ClassData.{IsConfiguration}
use Rattle.visitors.specs.Entries.{IsEntry}
use Rattle.visitors.specs.Lists.{IsFront, IsCut}
use Rattle.colour_wl.specs.GrowthStrings.{IsGrowth, growth_strings, IsBefore}
use Rattle.colour_wl.specs.Fusions.{Fuses, FusesAfter, IsFusionsAfter}
use Rattle.colour_wl.proofs.Classes.{colour_at-below}
use Rattle.colour_wl.proofs.ColourRounds.{growth_low}
use Rattle.colour_wl.proofs.Existing.{fusions_exist, fusions_after_exist}
use Rattle.colour_wl.proofs.Growth.{IsBefore-strict, IsBefore-trans, list_same_or_not, Ordered-growth_from, growth_strings_grow}
use Rattle.colour_wl.proofs.Members.{those_from_members}
use Rattle.mergings.specs.Cuts.{IsListCut}
use Rattle.mergings.specs.Listed.{IsFrontAdded}
use Rattle.mergings.specs.Mergings.{IsMergings, IsResumed, IsFrontOf, IsAllOf}

-- what comes after one of the list is the list of those that come after it
ordered_right : (xs ys : List (List ℕ)) → Ordered IsBefore (xs ++ ys) → Ordered IsBefore ys
ordered_right [] ys o = o
ordered_right (x ∷ xs) ys o = ordered_right xs ys o.1

ordered_across : (xs ys : List (List ℕ)) → Ordered IsBefore (xs ++ ys) → (a b : List ℕ) → In a xs → In b ys → IsBefore a b
ordered_across [] ys o a b i j = absurd i
ordered_across (x ∷ xs) ys o a b i j = ⊎_elim
    (λ e. subst (λ c. IsBefore c b) (sym e) (each_in (IsBefore x) (xs ++ ys) o.0 b (In-append_right xs ys b j)))
    (λ k. ordered_across xs ys o.1 a b k j)
    i

those_resumed : (P : List ℕ → Type 0) (r : ℕ) (front rest : List (List ℕ)) (after : List ℕ) → AreThose P (growth_strings r) (front ++ after ∷ rest) → AreThose (λ a. IsBefore after a × P a) (growth_strings r) rest
those_resumed P r front rest after f =
    let all : List (List ℕ) = growth_strings r in
    let o : Ordered IsBefore all = Ordered-growth_from r [] in
    let p = those_in_order IsBefore P all (front ++ after ∷ rest) o f in
    let q = ordered_right front (after ∷ rest) p in
    those_from_members IsBefore IsBefore-strict IsBefore-trans list_same_or_not (λ a. IsBefore after a × P a) all rest o q.1
    (λ a i. let r = those_hold P all (front ++ after ∷ rest) f a (In-append_right front (after ∷ rest) a (inr i)) in ((each_in (IsBefore after) rest q.0 a i, r.0), r.1))
    (λ a i c. ⊎_elim
    (λ (j : In a front). absurd (IsBefore-strict a (IsBefore-trans a after a (ordered_across front (after ∷ rest) p a after j (inl refl)) c.0)))
    (λ (j : In a (after ∷ rest)). ⊎_elim (λ e. absurd (IsBefore-strict a (subst (λ b. IsBefore b a) (sym e) c.0))) (λ k. k) j)
    (In-append_cases front (after ∷ rest) a (those_has P all (front ++ after ∷ rest) f a i c.1)))

resumed : (K : PairColouring) (after : Option (Bor (List ℕ))) (front rest : List (List ℕ)) (string : List ℕ) → IsMergings K after (front ++ string ∷ rest) → IsFusionsAfter K string rest
resumed K None front rest string f = those_resumed (Fuses K) (rank_of K) front rest string f
resumed K (Some after) front rest string f =
    let own = (those_hold (FusesAfter K after.now) (growth_strings (rank_of K)) (front ++ string ∷ rest) f string (In-append_right front (string ∷ rest) string (inl refl))).0 in
    those_same (λ a. IsBefore string a × FusesAfter K after.now a) (FusesAfter K string) (growth_strings (rank_of K)) rest
    (λ a i. (λ h. (h.0, h.1.1), λ h. (h.0, (IsBefore-trans after.now string a own.0 h.0, h.1))))
    (those_resumed (FusesAfter K after.now) (rank_of K) front rest string f)

mergings_unique : (K : PairColouring) (after : Option (Bor (List ℕ))) (xs ys : List (List ℕ)) → IsMergings K after xs → IsMergings K after ys → xs ≡ ys
mergings_unique K None xs ys = those_unique (Fuses K) (growth_strings (rank_of K)) xs ys
mergings_unique K (Some after) xs ys = those_unique (FusesAfter K after.now) (growth_strings (rank_of K)) xs ys

pub mergings_exist : (K : PairColouring) (after : Option (Bor (List ℕ))) → (xs : List (List ℕ)) × IsMergings K after xs
mergings_exist K None = fusions_exist K
mergings_exist K (Some after) = fusions_after_exist K after.now

mergings_grow : (K : PairColouring) (after : Option (Bor (List ℕ))) (xs : List (List ℕ)) → IsMergings K after xs → (a : List ℕ) → In a xs → IsGrowth (rank_of K) a
mergings_grow K None xs m a i = growth_strings_grow (rank_of K) a (those_hold (Fuses K) (growth_strings (rank_of K)) xs m a i).1
mergings_grow K (Some after) xs m a i = growth_strings_grow (rank_of K) a (those_hold (FusesAfter K after.now) (growth_strings (rank_of K)) xs m a i).1

-- a growth string may be met
pub growth_entry : (r : ℕ) (a : List ℕ) → 1 ≤ r → r ≤ 16 → IsGrowth r a → IsEntry a
growth_entry r a some small g = record {
  some = omega (arith, some, g.len);
  width = omega (arith, small, g.len);
  numbers = λ k d l. omega (arith, get_or_default a k 0 d l, growth_low r a g k (omega (arith, l, g.len)), l, g.len, small);
}

In-take : (n : ℕ) (xs : List (List ℕ)) (a : List ℕ) → In a (take n xs) → In a xs
In-take zero xs a i = absurd i
In-take (suc n) [] a i = absurd i
In-take (suc n) (x ∷ xs) a i = ⊎_elim inl (λ j. inr (In-take n xs a j)) i

In-own : (xs : List (List ℕ)) (k : ℕ) (d : List ℕ) → k < length xs → In (get_or xs k d) xs
In-own [] k d l = absurd (omega (arith, l))
In-own (x ∷ xs) zero d l = inl refl
In-own (x ∷ xs) (suc k) d l = inr (In-own xs k d (omega (arith, l)))

pub some_colour : (K : PairColouring) → IsConfiguration K → 1 ≤ rank_of K
some_colour K h = let z : 0 < K.size = omega (arith, h.colouring.has_points) in omega (arith, colour_at-below K h 0 0 z z)

pub piece_entries : (K : PairColouring) → IsConfiguration K → rank_of K ≤ 16 → (after : Option (Bor (List ℕ))) (n : ℕ) (met : List (List ℕ)) → IsListCut (IsMergings K after) n met → All IsEntry met
piece_entries K h small after n met p k d l =
    growth_entry (rank_of K) (get_or met k d) (some_colour K h) small
    (mergings_grow K after p.those p.are (get_or met k d) (In-take n p.those (get_or met k d) (subst (In (get_or met k d)) p.cut (In-own met k d l))))

length-take-most : (n : ℕ) (xs : List (List ℕ)) → length (take n xs) ≤ n
length-take-most zero xs = omega arith
length-take-most (suc n) [] = omega arith
length-take-most (suc n) (x ∷ xs) = omega (arith, length-take-most n xs)

take_short : (n : ℕ) (xs : List (List ℕ)) → length (take n xs) < n → take n xs ≡ xs
take_short zero xs l = absurd (omega (arith, l))
take_short (suc n) [] l = refl
take_short (suc n) (x ∷ xs) l = ap (λ t. x ∷ t) (take_short n xs (omega (arith, l)))

module _ (K : PairColouring) (after : Option (Bor (List ℕ))) (n : ℕ) (piece old new : List (List ℕ)) (p : IsListCut (IsMergings K after) n piece) where
  -- what was added of a piece
  pub piece_front : IsFrontAdded piece old new → IsFrontOf (IsMergings K after) old new
  piece_front f = record {
    front = λ whole w.
        let same : take n whole ≡ piece = ap (take n) (mergings_unique K after whole p.those w p.are) ∙ sym p.cut in
        sym (take_at new (f.missing ++ drop n whole) (length new) refl)
        ∙ ap (take (length new))
        (sym (append_assoc new f.missing (drop n whole))
        ∙ ap (λ t. t ++ drop n whole) f.front
        ∙ append_assoc old piece (drop n whole)
        ∙ ap (λ t. old ++ (t ++ drop n whole)) (sym same)
        ∙ ap (λ t. old ++ t) (take-append-drop n whole));
  }

  -- a piece that is not full is the end of the list
  pub piece_end : (room : ℕ) → new ≡ old ++ piece → length piece < n → length new < room → IsAllOf (IsMergings K after) room old new
  piece_end room e short l = record {
    all = λ whole w.
        let same : piece ≡ take n whole = p.cut ∙ ap (take n) (mergings_unique K after p.those whole p.are w) in
        let is : piece ≡ whole = same ∙ take_short n whole (omega (arith, short, ap length same)) in
        let all : new ≡ old ++ whole = e ∙ ap (λ t. old ++ t) is in
        all ∙ sym (take_all room (old ++ whole) (omega (arith, l, ap length all)));
  }

  -- one that is full is resumed after its last string
  pub piece_next : (m : ℕ) (string : List ℕ) → n ≡ m + 1 → new ≡ old ++ piece → n ≤ length piece → string ≡ get_or piece m [] → length new ≡ length old + length piece → IsResumed K (IsMergings K after) old new string
  piece_next m string e added full s len =
      let those : List (List ℕ) = p.those in
      let rest : List (List ℕ) = drop n those in
      let whole : piece ++ rest ≡ those = ap (λ t. t ++ rest) p.cut ∙ take-append-drop n those in
      let inside : m < length piece = omega (arith, full, e) in
      let last : piece ≡ take m piece ++ string ∷ [] = sym (take_all (m + 1) piece (omega (arith, upto, e))) ∙ take_more piece m [] inside ∙ ap (λ x. take m piece ++ x ∷ []) (sym s) in
      let cut : take m piece ++ string ∷ rest ≡ those = sym (append_assoc (take m piece) (string ∷ []) rest) ∙ ap (λ t. t ++ rest) (sym last) ∙ whole in
      record {
        growth = mergings_grow K after those p.are string (subst (In string) cut (In-append_right (take m piece) (string ∷ rest) string (inl refl)));
        rest = rest;
        are = resumed K after (take m piece) rest string (subst (IsMergings K after) (sym cut) p.are);
        split = λ all w.
            ap (λ t. old ++ t) (mergings_unique K after all those w p.are ∙ sym whole)
            ∙ sym (append_assoc old piece rest)
            ∙ ap (λ t. t ++ rest) (sym added);
        more = omega (arith, len, full, e);
      }
    where
      upto : length piece ≤ n
      upto = omega (arith, ap length p.cut, length-take-most n p.those)

-- before any piece
pub front_none : (IsWhole : List (List ℕ) → Type 0) (old : List (List ℕ)) → IsFrontOf IsWhole old old
front_none IsWhole old = record { front = λ whole w. sym (take_at old whole (length old) refl) }

-- pieces after pieces
pub front_whole : (IsWhole : List (List ℕ) → Type 0) (room : ℕ) (old new : List (List ℕ)) → IsFrontOf IsWhole old new → length new ≡ room → IsAllOf IsWhole room old new
front_whole IsWhole room old new f l = record { all = λ whole w. f.front whole w ∙ ap (λ k. take k (old ++ whole)) l }

module _ (K : PairColouring) (IsWhole : List (List ℕ) → Type 0) (old mid new : List (List ℕ)) (string : List ℕ) (r : IsResumed K IsWhole old mid string) where
  pub front_moved : IsFrontOf (IsFusionsAfter K string) mid new → IsFrontOf IsWhole old new
  front_moved f = record { front = λ whole w. f.front r.rest r.are ∙ ap (take (length new)) (sym (r.split whole w)) }

  pub all_moved : (own room : ℕ) → own ≡ room → IsAllOf (IsFusionsAfter K string) own mid new → IsAllOf IsWhole room old new
  all_moved own room e f = record { all = λ whole w. f.all r.rest r.are ∙ (λ i. take (e i) (sym (r.split whole w) i)) }

-- what was met and is met, while the list of the fusions after a string is delivered
pub record IsMidway (K : PairColouring) (first : List ℕ) (old now : List (List ℕ)) (last : List ℕ) : Type 0 where
  pub growth : IsGrowth (rank_of K) last
  pub rest : List (List ℕ)
  pub are : IsFusionsAfter K last rest
  pub split : (whole : List (List ℕ)) → IsFusionsAfter K first whole → old ++ whole ≡ now ++ rest

pub midway_start : (K : PairColouring) (first : List ℕ) (old : List (List ℕ)) → IsGrowth (rank_of K) first → IsMidway K first old old first
midway_start K first old g = let t = fusions_after_exist K first in record {
  growth = g;
  rest = t.0;
  are = t.1;
  split = λ whole w. ap (λ l. old ++ l) (those_unique (FusesAfter K first) (growth_strings (rank_of K)) whole t.0 w t.1);
}

module _ (K : PairColouring) (first : List ℕ) (old mid new : List (List ℕ)) (string : List ℕ) (r : IsMidway K first old mid string) where
  pub midway_front : IsFrontOf (IsFusionsAfter K string) mid new → IsFrontOf (IsFusionsAfter K first) old new
  midway_front f = record { front = λ whole w. f.front r.rest r.are ∙ ap (take (length new)) (sym (r.split whole w)) }

  pub midway_all : (own room : ℕ) → own ≡ room → IsAllOf (IsFusionsAfter K string) own mid new → IsAllOf (IsFusionsAfter K first) room old new
  midway_all own room e f = record { all = λ whole w. f.all r.rest r.are ∙ (λ i. take (e i) (sym (r.split whole w) i)) }

  pub midway_more : (last : List ℕ) → IsResumed K (IsFusionsAfter K string) mid new last → IsMidway K first old new last
  midway_more last f = record { growth = f.growth; rest = f.rest; are = f.are; split = λ whole w. r.split whole w ∙ f.split r.rest r.are }

-- where nothing was met before
pub front_of_list : (IsWhole : List (List ℕ) → Type 0) (old new : List (List ℕ)) → old ≡ [] → IsFrontOf IsWhole old new → IsFront IsWhole new
front_of_list IsWhole old new e f = record { front = λ whole w. f.front whole w ∙ ap (λ o. take (length new) (o ++ whole)) e }

pub cut_of_list : (IsWhole : List (List ℕ) → Type 0) (room : ℕ) (old new : List (List ℕ)) → old ≡ [] → IsAllOf IsWhole room old new → IsCut IsWhole room new
cut_of_list IsWhole room old new e f = record { cut = λ whole w. f.all whole w ∙ ap (λ o. take room (o ++ whole)) e }
