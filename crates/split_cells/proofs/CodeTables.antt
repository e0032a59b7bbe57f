-- Short numbers of classes, and the codes made of them.
use Rattle.std.proofs.Common.{◌≡◌, ◌≢◌, ℕ, ◌+◌, ◌*◌, ◌/◌, ◌<◌, ◌≤◌, List, length, get_or, set, ⊎_elim, refl, sym, ap, subst, ◌∙◌, arith}
use Rattle.std.proofs.lemmas.Bool.{cases_eq}
use Rattle.std.proofs.lemmas.List.{length-set, get_or-set_other}
use Rattle.std.proofs.lemmas.Nat.{div-mul-add, same_from_place}
use Rattle.pair_colours.proofs.Places.{place_below}
use Rattle.split_cells.specs.declared.classed_pairs.ClassedPairs.{ClassedPairs}
use Rattle.split_cells.specs.declared.codes.Codes.{Codes}
use Rattle.split_cells.specs.Segments.{class_at}
use Rattle.split_cells.specs.Pairs.{fibre_of, lead_of, partition_of}
use Rattle.split_cells.specs.Faults.{HasHomes}
use Rattle.split_cells.specs.Codes.{IsCodeTable, IsShort, IsShortened, IsCodedTo, IsCoded}
use Rattle.wl_round.proofs.OneWrite.{one_write}

module _ (pairs : ClassedPairs) where
  abbrev n : ℕ
  n = pairs.size

  abbrev class : ℕ → ℕ → ℕ
  class x z = class_at pairs.parting (x * n + z)

  -- of the classes in the row from x, those before z have got places where they stand there
  pub record IsShortenedTo (x : ℕ) (old : List ℕ) (z : ℕ) (new : List ℕ) : Type 0 where
    pub low : (k : ℕ) → get_or old k 0 < pairs.size → get_or new k 0 < pairs.size
    pub stands : (w : ℕ) → w < z → class_at pairs.parting (x * pairs.size + get_or new (class_at pairs.parting (x * pairs.size + w)) 0) ≡ class_at pairs.parting (x * pairs.size + w)
    pub others : (k : ℕ) → ((w : ℕ) → w < z → class_at pairs.parting (x * pairs.size + w) ≢ k) → get_or new k 0 ≡ get_or old k 0

  pub IsShortenedTo-start : (x : ℕ) (old : List ℕ) → IsShortenedTo x old 0 old
  IsShortenedTo-start x old = record { low = λ k l. l; stands = λ w l. absurd (omega (arith, l)); others = λ k h. refl }

  pub IsShortenedTo-more : (x z c : ℕ) (old new : List ℕ) → z < n → c ≡ class x z → c < length new → IsShortenedTo x old z new → IsShortenedTo x old (z + 1) (set new c z)
  IsShortenedTo-more x z c old new hz is inside h = record {
    low = λ k l. one_write (λ v. v < n) new c z k inside (λ _. hz) (λ _. h.low k l);
    stands = λ w l. one_write (λ v. class x v ≡ class x w) new c z (class x w) inside
        (λ e. sym is ∙ sym e)
        (λ ne. h.stands w (let o : w ≢ z = λ f. ne (ap (class x) f ∙ sym is) in omega (arith, l, o)));
    others = λ k o. get_or-set_other new c k z 0 (λ e. o z (omega arith) (sym is ∙ sym e)) ∙ h.others k (λ w l. o w (omega (arith, l)));
  }

  pub IsShortened-from : (x z : ℕ) (old new : List ℕ) → z ≡ n → IsShortenedTo x old z new → IsShortened pairs x old new
  IsShortened-from x z old new e h =
      let g = subst (λ m. IsShortenedTo x old m new) e h in
      record { low = g.low; stands = g.stands; others = g.others }

  -- the rows from the first points of fibres before t are done
  pub record IsShortTo (t : ℕ) (short : List ℕ) : Type 0 where
    pub low : (k : ℕ) → get_or short k 0 < pairs.size
    pub stands : (x z : ℕ) → x < t → z < pairs.size → lead_of pairs (fibre_of pairs x) ≡ x
        → class_at pairs.parting (x * pairs.size + get_or short (class_at pairs.parting (x * pairs.size + z)) 0) ≡ class_at pairs.parting (x * pairs.size + z)

  pub IsShortTo-start : (short : List ℕ) → 0 < n → ((k : ℕ) → get_or short k 0 ≡ 0) → IsShortTo 0 short
  IsShortTo-start short some blank = record { low = λ k. omega (arith, blank k, some); stands = λ x z l. absurd (omega (arith, l)) }

  pub IsShortTo-skip : (t : ℕ) (short : List ℕ) → lead_of pairs (fibre_of pairs t) ≢ t → IsShortTo t short → IsShortTo (t + 1) short
  IsShortTo-skip t short ne h = record {
    low = h.low;
    stands = λ x z l hz lead. h.stands x z (let o : x ≢ t = λ e. ne (ap (λ w. lead_of pairs (fibre_of pairs w)) (sym e) ∙ lead ∙ e) in omega (arith, l, o)) hz lead;
  }

  -- the classes in the row from another first point have another home, and so keep their places
  pub IsShortTo-more : (t : ℕ) (old new : List ℕ) → t < n → HasHomes (partition_of pairs) → lead_of pairs (fibre_of pairs t) ≡ t → IsShortened pairs t old new → IsShortTo t old → IsShortTo (t + 1) new
  IsShortTo-more t old new ht home lead s h = record {
    low = λ k. s.low k (h.low k);
    stands = λ x z l hz is. ⊎_elim
        (λ e. subst (λ w. class w (get_or new (class w z) 0) ≡ class w z) (sym e) (s.stands z hz))
        (λ (ne : x ≢ t).
        let hx : x < t = omega (arith, l, ne) in
        let kept = s.others (class x z) (λ w hw e.
        let same : fibre_of pairs t ≡ fibre_of pairs x = home.home t w x z ht hw (omega (arith, hx, ht)) hz e in
        ne (sym is ∙ ap (lead_of pairs) (sym same) ∙ lead)) in
        ap (class x) kept ∙ h.stands x z hx hz is)
        (cases_eq x t);
  }

  pub IsShort-from : (t : ℕ) (short : List ℕ) → n ≤ t → IsShortTo t short → IsShort pairs short
  IsShort-from t short e h = record { low = h.low; stands = λ x z hx hz lead. h.stands x z (omega (arith, hx, e)) hz lead }

  module _ (short : List ℕ) where
    pub IsCodedTo-start : (codes : Codes) → IsCodeTable n codes → IsCodedTo pairs short 0 codes
    IsCodedTo-start codes h = record { table = h; right = λ p l. absurd (omega (arith, l)); left = λ p l. absurd (omega (arith, l)); known = λ p l. absurd (omega (arith, l)) }

    -- one pair more
    pub IsCodedTo-more : (t left right : ℕ) (codes new : Codes) → t < n * n → right ≡ get_or short (class_at pairs.parting t) 0 → left ≡ right * n
        → class_at pairs.parting (lead_of pairs (fibre_of pairs (t / n)) * n + right) ≡ class_at pairs.parting t
        → new.lefts.items ≡ set codes.lefts.items t left → new.rights.items ≡ set codes.rights.items t right → IsCodedTo pairs short t codes → IsCodedTo pairs short (t + 1) new
    IsCodedTo-more t left right codes new ht r l known el er h = record {
      table = record {
        lefts = ap length el ∙ length-set codes.lefts.items t left ∙ h.table.lefts;
        rights = ap length er ∙ length-set codes.rights.items t right ∙ h.table.rights;
      };
      right = λ p b. ap (λ xs. get_or xs p 0) er ∙ one_write (λ v. v ≡ get_or short (class_at pairs.parting p) 0) codes.rights.items t right p (omega (arith, ht, h.table.rights))
          (λ e. r ∙ ap (λ q. get_or short (class_at pairs.parting q) 0) (sym e))
          (λ (ne : p ≢ t). h.right p (omega (arith, b, ne)));
      left = λ p b. ap (λ xs. get_or xs p 0) el ∙ one_write (λ v. v ≡ get_or short (class_at pairs.parting p) 0 * n) codes.lefts.items t left p (omega (arith, ht, h.table.lefts))
          (λ e. l ∙ ap (λ v. v * n) (r ∙ ap (λ q. get_or short (class_at pairs.parting q) 0) (sym e)))
          (λ (ne : p ≢ t). h.left p (omega (arith, b, ne)));
      known = λ p b. ⊎_elim
          (λ e. subst (λ q. class_at pairs.parting (lead_of pairs (fibre_of pairs (q / n)) * n + get_or short (class_at pairs.parting q) 0) ≡ class_at pairs.parting q) (sym e)
          (ap (λ v. class_at pairs.parting (lead_of pairs (fibre_of pairs (t / n)) * n + v)) (sym r) ∙ known))
          (λ (ne : p ≢ t). h.known p (omega (arith, b, ne)))
          (cases_eq p t);
    }

    -- with all pairs, the codes tell the classes
    module _ (low : (k : ℕ) → get_or short k 0 < n) (codes : Codes) (h : IsCodedTo pairs short (n * n) codes) where
      abbrev number : ℕ → ℕ → ℕ
      number x z = get_or short (class x z) 0

      left_is : (x z : ℕ) → x < n → z < n → get_or codes.lefts.items (x * n + z) 0 ≡ number x z * n
      left_is x z hx hz = h.left (x * n + z) (place_below n x z hx hz)

      right_is : (x z : ℕ) → x < n → z < n → get_or codes.rights.items (x * n + z) 0 ≡ number x z
      right_is x z hx hz = h.right (x * n + z) (place_below n x z hx hz)

      known_at : (x z : ℕ) → x < n → z < n → class (lead_of pairs (fibre_of pairs x)) (number x z) ≡ class x z
      known_at x z hx hz =
          ap (λ w. class (lead_of pairs (fibre_of pairs w)) (number x z)) (sym (div-mul-add x n z hz)) ∙ h.known (x * n + z) (place_below n x z hx hz)

      -- a number tells the class among those from one fibre
      tells : (x z u w : ℕ) → x < n → z < n → u < n → w < n → fibre_of pairs x ≡ fibre_of pairs u → number x z ≡ number u w → class x z ≡ class u w
      tells x z u w hx hz hu hw e f =
          sym (known_at x z hx hz) ∙ (λ i. class (lead_of pairs (e i)) (f i)) ∙ known_at u w hu hw

      sums : (x y u v z w : ℕ) → x < n → y < n → u < n → v < n → z < n → w < n
          → get_or codes.lefts.items (x * n + z) 0 + get_or codes.rights.items (y * n + z) 0 ≡ get_or codes.lefts.items (u * n + w) 0 + get_or codes.rights.items (v * n + w) 0
          → (number x z ≡ number u w) × (number y z ≡ number v w)
      sums x y u v z w hx hy hu hv hz hw e =
          same_from_place (number x z) (number y z) (number u w) (number v w) n (low (class y z)) (low (class v w))
          (omega (arith, e, left_is x z hx hz, right_is y z hy hz, left_is u w hu hw, right_is v w hv hw))

      pub IsCoded-from : IsCoded (partition_of pairs) codes
      IsCoded-from = record {
        table = h.table;
        low = λ x y z hx hy hz. omega (arith, left_is x z hx hz, right_is y z hy hz, place_below n (number x z) (number y z) (low (class x z)) (low (class y z)));
        same = λ x y u v z w hx hy hu hv hz hw e f.
            let a : number x z * n ≡ number u w * n = ap (λ k. get_or short k 0 * n) e in
            let b : number y z ≡ number v w = ap (λ k. get_or short k 0) f in
            omega (arith, left_is x z hx hz, right_is y z hy hz, left_is u w hu hw, right_is v w hv hw, a, b);
        left = λ x y u v z w hx hy hu hv hz hw e f. tells x z u w hx hz hu hw e (sums x y u v z w hx hy hu hv hz hw f).0;
        right = λ x y u v z w hx hy hu hv hz hw e f. tells y z v w hy hz hv hw e (sums x y u v z w hx hy hu hv hz hw f).1;
      }
