-- A look-up in a row of entries.
use Rattle.std.specs.Prelude.{◌≡◌, ◌==◌, ◌&&◌, ◌||◌, ℕ, Bool, true, false, nat_lt, List, All}
use Rattle.std.specs.List.Sorted.{IsPartitionPoint}
use Rattle.triangle_count.specs.declared.rows.Entry.{Entry}

-- whether an entry stands before the place of two colours
abbrev pub is_before : ℕ → ℕ → Entry → Bool
is_before left right e = nat_lt e.left left || ((e.left == left) && nat_lt e.right right)

-- the entries before the place stand before that of two colours, and the others do not
abbrev pub IsPlaceIn : List Entry → ℕ → ℕ → ℕ → Type 0
IsPlaceIn entries left right place = IsPartitionPoint (λ e. is_before left right e ≡ true) (λ e. is_before left right e ≡ false) entries place

-- an entry of two colours
abbrev pub IsOf : ℕ → ℕ → Entry → Type 0
IsOf left right e = (e.left ≡ left) × (e.right ≡ right)

-- n is the count of the entry of two colours, or 0 if there is none
pub record IsCountIn (entries : List Entry) (left right n : ℕ) : Type 0 where
  pub there : All (λ e. IsOf left right e → n ≡ e.count) entries
  pub absent : All (λ e. ¬ IsOf left right e) entries → n ≡ 0
