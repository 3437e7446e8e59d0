-- Formats: how a value is spelled as bytes, and how it is read from the beginning of some bytes.
use Rattle.std.specs.Prelude.{◌<◌, slice_index_or, ℕ, zero, suc, List, [], ◌∷◌, ◌++◌, length, take, drop, Option, Some, None, nat_lt}
use Rattle.std.specs.Prelude.{if◌then◌else◌}
use Rattle.std.specs.List.{flat_map}
use Rattle.std.specs.Option.{option_map, option_and_then}
use Rattle.std.specs.Int.{Width, byte_len, from_be_bytes, to_be_bytes}

-- numbers that are bytes
abbrev pub IsBytes : List ℕ → Type 0
IsBytes bytes = (i : ℕ) → slice_index_or bytes i 0 < 256

pub record Format (X : Type 0) : Type 0 where
  -- the spelling of a value
  pub put : X → List ℕ
  -- the value at the beginning, and the bytes after it
  pub get : List ℕ → Option (X × List ℕ)

-- a number of a fixed width, its highest byte first
abbrev pub number : Width → Format ℕ
number w = record {
  put = λ n. to_be_bytes w n;
  get = λ bytes. if nat_lt (length bytes) (byte_len w) then None
      else Some (from_be_bytes w (take (byte_len w) bytes), drop (byte_len w) bytes);
}

-- a number less than 256
abbrev pub first_byte : List ℕ → Option (ℕ × List ℕ)
first_byte [] = None
first_byte (b ∷ rest) = Some (b, rest)

abbrev pub byte : Format ℕ
byte = record { put = λ n. n ∷ []; get = first_byte }

-- so many bytes
abbrev pub run : ℕ → Format (List ℕ)
run n = record {
  put = λ bytes. bytes;
  get = λ bytes. if nat_lt (length bytes) n then None else Some (take n bytes, drop n bytes);
}

module _ {X Y : Type 0} where
  -- one value and then another, whose format may rest on the first
  abbrev pub then_format : Format X → (X → Format Y) → Format (X × Y)
  then_format a f = record {
    put = λ p. a.put p.0 ++ (f p.0).put p.1;
    get = λ bytes. option_and_then (λ p. option_map (λ q. ((p.0, q.0), q.1)) ((f p.0).get p.1)) (a.get bytes);
  }

  -- a value that another one stands for; nothing where none does
  abbrev pub mapped_format : Format X → (Y → X) → (X → Option Y) → Format Y
  mapped_format a from to = record {
    put = λ y. a.put (from y);
    get = λ bytes. option_and_then (λ p. option_map (λ y. (y, p.1)) (to p.0)) (a.get bytes);
  }

module _ {X : Type 0} (a : Format X) where
  abbrev pub get_times : ℕ → List ℕ → Option (List X × List ℕ)
  get_times zero bytes = Some ([], bytes)
  get_times (suc n) bytes = option_and_then (λ p. option_map (λ q. (p.0 ∷ q.0, q.1)) (get_times n p.1)) (a.get bytes)

  -- so many values
  abbrev pub repeated : ℕ → Format (List X)
  repeated n = record { put = λ xs. flat_map a.put xs; get = get_times n }

  -- their number and then the values
  abbrev pub with_count : Format ℕ → Format (List X)
  with_count len = record {
    put = λ xs. len.put (length xs) ++ flat_map a.put xs;
    get = λ bytes. option_and_then (λ n. get_times n.0 n.1) (len.get bytes);
  }

  -- the value that all of the bytes spell
  abbrev pub only : Option (X × List ℕ) → Option X
  only None = None
  only (Some (x, [])) = Some x
  only (Some (x, b ∷ rest)) = None

  abbrev pub whole : List ℕ → Option X
  whole bytes = only (a.get bytes)

-- a text after its length
abbrev pub sized : Format ℕ → Format (List ℕ)
sized len = record {
  put = λ text. len.put (length text) ++ text;
  get = λ bytes. option_and_then (λ n. (run n.0).get n.1) (len.get bytes);
}
