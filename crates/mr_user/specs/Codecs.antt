-- The forms of texts, numbers and positions as bytes (a profile of its own).
use Rattle.std.specs.Prelude.{ℕ, ◌+◌, ◌^◌, ◌&&◌, nat_lt, cond, List, ◌++◌, length, take, drop, Some, None}
use Rattle.std.specs.Int.{w32, w64, from_be_bytes, to_be_bytes}
use Rattle.std.specs.List.{list_all}
use Rattle.mr_user.specs.declared.position.Position.{Position}
use Rattle.mr_user.specs.Computation.{Codec}

-- 8 bytes, the highest first
abbrev pub number_codec : Codec ℕ
number_codec = record {
  written = to_be_bytes w64;
  read_at = λ bytes. cond (nat_lt (length bytes) 8) None (Some (from_be_bytes w64 (take 8 bytes), 8));
  fits = λ n. nat_lt n (2 ^ 64);
}

-- the length in 4 bytes, and the bytes
abbrev pub text_codec : Codec (List ℕ)
text_codec = record {
  written = λ text. to_be_bytes w32 (length text) ++ text;
  read_at = λ bytes. cond (nat_lt (length bytes) 4) None
      (let len = from_be_bytes w32 (take 4 bytes) in cond (nat_lt (length (drop 4 bytes)) len) None (Some (take len (drop 4 bytes), 4 + len)));
  fits = λ text. nat_lt (length text) (2 ^ 32) && list_all (λ b. nat_lt b 256) text;
}

-- the split in 4 bytes and the line in 8, the highest first
abbrev pub position_codec : Codec Position
position_codec = record {
  written = λ p. to_be_bytes w32 p.split ++ to_be_bytes w64 p.line;
  read_at = λ bytes. cond (nat_lt (length bytes) 12) None (Some (record { split = from_be_bytes w32 (take 4 bytes); line = from_be_bytes w64 (take 8 (drop 4 bytes)) }, 12));
  fits = λ p. nat_lt p.split (2 ^ 32) && nat_lt p.line (2 ^ 64);
}
