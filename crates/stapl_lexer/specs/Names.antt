-- Names (JESD71, names): a letter, then letters, digits and underscores, 32 characters at most. Letter case is ignored.
use Rattle.std.specs.Prelude.{◌≡◌, ℕ, ◌-◌, ◌<◌, ◌≤◌, ◌++◌, List, Bool, true, ◌&&◌, ◌||◌, ◌==◌, nat_le, slice_index, length, take, replicate}
use Rattle.std.specs.List.{list_all}
use Rattle.std.specs.Char.{is_ascii_alphabetic, is_ascii_alphanumeric}
use Rattle.std.specs.Str.{str_to_ascii_uppercase}

-- a letter, a digit or an underscore
abbrev pub is_name_byte : ℕ → Bool
is_name_byte b = is_ascii_alphanumeric b || (b == 95)

-- the bytes spell a name
abbrev pub is_name : List ℕ → Bool
is_name bytes = is_ascii_alphabetic (slice_index bytes 0) && list_all is_name_byte bytes && nat_le (length bytes) 32

-- a name as it is compared and printed: its spelling in upper case
pub record IsUpperName (name : List ℕ) : Type 0 where
  pub spelled : is_name name ≡ true
  pub some : 0 < length name
  pub short : length name ≤ 32
  pub upper : str_to_ascii_uppercase name ≡ name

-- how a name is stored: its bytes in front, and zeros after them
pub record IsStored (bytes : List ℕ) (len : ℕ) : Type 0 where
  pub within : len ≡ length (take len bytes)
  pub padded : bytes ≡ take len bytes ++ replicate (32 - length (take len bytes)) 0
  pub name : IsUpperName (take len bytes)
