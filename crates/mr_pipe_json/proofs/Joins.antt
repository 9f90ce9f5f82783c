-- Word after word.
use Rattle.std.proofs.Common.{◌≡◌, ℕ, true, false, List, [], ◌∷◌, ◌++◌, Option, Some, None, refl, sym, ap, ◌∙◌, append_assoc, append-nil, option_map}
use Rattle.serde_json.specs.Data.{Data, Items, item, no_items}
use Rattle.serde_json.specs.Find.{as_str}
use Rattle.mr_pipe_json.specs.Form.{joined, with_word}
use Rattle.mr_pipe_json.specs.inner.Joins.{PutsWords}

-- what is told of the rest, behind what was put
abbrev pub behind : List ℕ → Option (List ℕ) → Option (List ℕ)
behind said None = None
behind said (Some rest) = Some (said ++ rest)

one_more : (said word : List ℕ) (rest : Option (List ℕ)) → behind (said ++ 32 ∷ word) rest ≡ behind said (with_word (Some word) rest)
one_more said word None = refl
one_more said word (Some rest) = ap (λ x. Some x) (append_assoc said (32 ∷ word) rest)

-- so far these bytes were put, and the whole is told by what is left
pub record Puts (old now : List ℕ) (left all : Items) : Type 0 where
  pub said : List ℕ
  pub put : now ≡ old ++ said
  pub is : behind said (joined left) ≡ joined all

at_first : (told : Option (List ℕ)) → behind [] told ≡ told
at_first None = refl
at_first (Some rest) = refl

pub nothing_put : (old : List ℕ) (all : Items) → Puts old old all all
nothing_put old all = record { said = []; put = sym (append-nil old); is = at_first (joined all) }

pub word_put : (old now then : List ℕ) (left all rest : Items) (d : Data) (word : List ℕ) → Puts old now left all → left ≡ item d rest → as_str d ≡ Some word → then ≡ now ++ 32 ∷ word → Puts old then rest all
word_put old now then left all rest d word puts is text more = record {
  said = puts.said ++ 32 ∷ word;
  put = more ∙ ap (λ x. x ++ 32 ∷ word) puts.put ∙ append_assoc old puts.said (32 ∷ word);
  is = one_more puts.said word (joined rest) ∙ ap (λ t. behind puts.said (with_word t (joined rest))) (sym text) ∙ ap (λ x. behind puts.said (joined x)) (sym is) ∙ puts.is;
}

pub no_word : (old now then : List ℕ) (left all rest : Items) (d : Data) → Puts old now left all → left ≡ item d rest → as_str d ≡ None → PutsWords false old then (joined all)
no_word old now then left all rest d puts is none =
    sym puts.is ∙ ap (λ x. behind puts.said (joined x)) is ∙ ap (λ t. behind puts.said (with_word t (joined rest))) none

pub all_put : (old now : List ℕ) (left all : Items) → Puts old now left all → left ≡ no_items → PutsWords true old now (joined all)
all_put old now left all puts is =
    (puts.said, sym puts.is ∙ ap (λ x. behind puts.said (joined x)) is ∙ ap (λ x. Some x) (append-nil puts.said), puts.put)
