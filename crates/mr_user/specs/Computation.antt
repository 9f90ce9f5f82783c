-- What a job computes, apart from any program (a profile of its own, after the map, combiner, partition and reduce functions of Dean and Ghemawat 2004).
use Rattle.std.specs.Prelude.{ℕ, Bool, List, Option}
use Rattle.std.specs.declared.cmp.Ordering.{Ordering}

-- How a value is written as bytes, how it is read from the front of bytes (the value and how many bytes it took), and which values fit the form.
pub record Codec (A : Type 0) : Type 0 where
  pub written : A → List ℕ
  pub read_at : List ℕ → Option (A × ℕ)
  pub fits : A → Bool

-- What the functions of a job give.
pub record Functions (K V : Type 0) : Type 0 where
  -- the pairs of a line, from the split's number, the line's number and its bytes; none where the line is refused
  pub mapped : ℕ → ℕ → List ℕ → Option (List (K × V))
  -- the reduce that a key goes to, of the given number of reduces
  pub partition_of : K → ℕ → ℕ
  -- a list that is reduced to the same
  pub combined : K → List V → List V
  -- the value texts of a key and all its values
  pub reduced : K → List V → List (List ℕ)
  pub key_text : K → List ℕ

-- A job: the order of its keys, the forms of keys and values, and what its functions give.
pub record Computation (K V : Type 0) : Type 0 where
  pub cmp : K → K → Ordering
  pub key : Codec K
  pub value : Codec V
  pub functions : Functions K V

abbrev pub computation : {K V : Type 0} → (K → K → Ordering) → Codec K → Codec V → Functions K V → Computation K V
computation c k v f = record { cmp = c; key = k; value = v; functions = f }
