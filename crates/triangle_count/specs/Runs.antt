-- What it is to count codes, each the two colours over a point as one number.
use Rattle.std.specs.Prelude.{◌≡◌, ◌==◌, ℕ, ◌^◌, ◌<◌, ◌≤◌, List, length, count_by, All, AllPairs, Any}
use Rattle.pair_colours.specs.SideCodes.{code_of_pair}
use Rattle.triangle_count.specs.declared.rows.Entry.{Entry}

-- the two colours of an entry as one number
abbrev pub code_of : Entry → ℕ
code_of e = code_of_pair e.left e.right

-- the entries hold the different codes of a list, rising, each with how often it stands there
pub record IsTally (codes : List ℕ) (entries : List Entry) : Type 0 where
  pub rises : AllPairs (λ e f. code_of e < code_of f) entries
  pub small : All (λ e. e.right < 2 ^ 32) entries
  pub nonzero : All (λ e. 0 < e.count) entries
  pub counts : All (λ e. e.count ≡ count_by (λ code. code == code_of e) codes) entries
  pub complete : All (λ code. Any (λ e. code_of e ≡ code) entries) codes
  pub short : length entries ≤ length codes
