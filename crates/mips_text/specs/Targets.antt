-- How the targets of branches and jumps are read.
use Rattle.std.specs.Prelude.{◌≡◌, ℕ, ◌+◌, ◌-◌, ◌%◌, ◌^◌, ◌<◌, true, List, ◌++◌, length}
use Rattle.std.specs.List.{list_all}
use Rattle.std.specs.Str.Parse.{digits_value_after}
use Rattle.text_fields.specs.Numbers.{is_hex_digit}

-- a multiple of four among so many addresses from the first on, modulo 2 ^ 32
pub record IsInArc (first size a : ℕ) : Type 0 where
  pub word : a < 2 ^ 32
  pub aligned : a % 4 ≡ 0
  pub near : (a + (2 ^ 32 - first)) % 2 ^ 32 < size

-- the last digits of such an address, of which those before write a value
pub record IsTargetEnd (first size left value : ℕ) (text : List ℕ) : Type 0 where
  pub digits : list_all is_hex_digit text ≡ true
  pub long : length text ≡ left
  pub inside : IsInArc first size (digits_value_after 16 value text)

-- and these with more behind them
pub record OpensTargetEnd (first size left value : ℕ) (text : List ℕ) : Type 0 where
  pub digits : List ℕ
  pub target : IsTargetEnd first size left value digits
  pub rest : List ℕ
  pub is : text ≡ digits ++ rest

pub record IsTargetRead (first size left value : ℕ) (text : List ℕ) (a : ℕ) (rest : List ℕ) : Type 0 where
  pub digits : List ℕ
  pub target : IsTargetEnd first size left value digits
  pub is : text ≡ digits ++ rest
  pub worth : a ≡ digits_value_after 16 value digits
