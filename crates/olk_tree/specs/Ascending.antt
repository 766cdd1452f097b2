-- Names in order, and where a name stands among them.
use Rattle.std.specs.Prelude.{◌≡◌, ◌<◌, ◌≤◌, length, slice_index_or as get_or, ℕ, List, [], Result, Ok, Err}
use Rattle.std.specs.Int.{w64, from_be_bytes}
use Rattle.std.specs.Ordering.{nat_cmp}
use Rattle.std.specs.declared.cmp.Ordering.TheVariants.{Less, Equal, Greater}
use Rattle.std.specs.Cmp.Lexicographic.{slice_cmp}
use Rattle.olk_spec.specs.Names.{Name}

-- strictly ascending
abbrev pub Ascend : List Name → Type 0
Ascend ks = (i j : ℕ) → i < j → j < length ks → slice_cmp nat_cmp (get_or ks i []) (get_or ks j []) ≡ Less

-- strictly ascending, and no more names than there are of what stands beside them
pub record AscendWithin {N : Type 0} (ks : List Name) (xs : List N) : Type 0 where
  pub ascend : Ascend ks
  pub within : length ks ≤ length xs

-- the first eight bytes of a name, as a number: zeros follow where it has fewer
abbrev pub first_bytes : Name → ℕ
first_bytes n = from_be_bytes w64 n

-- numbers none of which is below one before it
abbrev pub Rise : List ℕ → Type 0
Rise hs = (i j : ℕ) → i ≤ j → j < length hs → get_or hs i 0 ≤ get_or hs j 0

-- the numbers before a place are below h
pub record IsBefore (hs : List ℕ) (h place : ℕ) : Type 0 where
  pub inside : place ≤ length hs
  pub below : (i : ℕ) → i < place → get_or hs i 0 < h

-- the place of the first number that is not below h, or the end
pub record IsFirst (hs : List ℕ) (h place : ℕ) : Type 0 where
  pub before : IsBefore hs h place
  pub here : place < length hs → h ≤ get_or hs place 0

-- n stands at this place
pub record StandsAt (ks : List Name) (n : Name) (place : ℕ) : Type 0 where
  pub inside : place < length ks
  pub here : slice_cmp nat_cmp (get_or ks place []) n ≡ Equal

-- n would stand at this place
pub record Parts (ks : List Name) (n : Name) (place : ℕ) : Type 0 where
  pub inside : place ≤ length ks
  pub below : (i : ℕ) → i < place → i < length ks → slice_cmp nat_cmp (get_or ks i []) n ≡ Less
  pub above : (i : ℕ) → place ≤ i → i < length ks → slice_cmp nat_cmp (get_or ks i []) n ≡ Greater

-- where n stands, or else where it would stand
abbrev pub IsPlaceOf : List Name → Name → Result ℕ ℕ → Type 0
IsPlaceOf ks n (Ok i) = StandsAt ks n i
IsPlaceOf ks n (Err i) = Parts ks n i
