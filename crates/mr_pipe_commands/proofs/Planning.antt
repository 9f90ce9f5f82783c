-- A plan by inputs by their names.
use Rattle.std.proofs.Common.{◌≡◌, ◌⊎◌, inl, inr, ℕ, List, [], ◌∷◌, ◌++◌, map, Option, Some, None, IfSome, refl, sym, subst, ap, ◌∙◌, append-nil, append_assoc}
use Rattle.std.specs.Io.KnownBytes.{Keeps}
use Rattle.mr_pipe.specs.declared.form.Form.{Form}
use Rattle.mr_recover.specs.declared.plan.Staging.{Staging}
use Rattle.mr_recover_plan.specs.Program.{Runs}
use Rattle.mr_pipe_commands.specs.Named.{AreBytesOf, FirstTooLong, IsTooLong, Known, RecoversNamed}
use Rattle.mr_pipe_commands.specs.declared.unread.Unread.{Unread}
use Rattle.mr_pipe_commands.specs.declared.unread.Unread.TheVariants.{TooLong, Failed}
use Rattle.mr_pipe_commands.specs.inner.Reading.{AreUnread, IsUnread, status_of_unread}

pub recovers : (known : Known) (form : Form) (names segments : List (List ℕ)) (staging : Staging) (was now : Option (List ℕ)) (status : ℕ) → AreBytesOf known names segments → Runs form segments staging was now status →
    RecoversNamed known form names staging was now status
recovers known form names segments staging was now status are ran = inl (segments, are, ran)

keeps_itself : (was : Option (List ℕ)) → Keeps was was
keeps_itself None = tt
keeps_itself (Some xs) = refl

pub refused : (known : Known) (form : Form) (names : List (List ℕ)) (staging : Staging) (was : Option (List ℕ)) (unread : Unread) (status : ℕ) → AreUnread known names unread → status ≡ status_of_unread unread →
    RecoversNamed known form names staging was was status
refused known form names staging was (TooLong n) status why is = inr (inl (is, why, keeps_itself was))
refused known form names staging was (Failed n f) status why is = inr (inr (f, is, keeps_itself was))

-- ---- input after input

pub record HasRead (known : Known) (all rest segments : List (List ℕ)) : Type 0 where
  pub before : List (List ℕ)
  pub are : before ++ rest ≡ all
  pub read : AreBytesOf known before segments

pub none_read : (known : Known) (all : List (List ℕ)) → HasRead known all all []
none_read known all = record { before = []; are = refl; read = tt }

one_behind : (known : Known) (names segments : List (List ℕ)) (name bytes : List ℕ) → AreBytesOf known names segments → IfSome (known name) (λ all. bytes ≡ all) → AreBytesOf known (names ++ name ∷ []) (segments ++ bytes ∷ [])
one_behind known [] [] name bytes are is = (is, tt)
one_behind known [] (x ∷ xs) name bytes are is = absurd are
one_behind known (n ∷ ns) [] name bytes are is = absurd are
one_behind known (n ∷ ns) (x ∷ xs) name bytes are is = (are.0, one_behind known ns xs name bytes are.1 is)

pub one_more : (known : Known) (all left : List (List ℕ)) (name bytes : List ℕ) (rest segments more : List (List ℕ)) → HasRead known all left segments → left ≡ name ∷ rest → AreBytesOf known (name ∷ []) (bytes ∷ []) →
    more ≡ segments ++ bytes ∷ [] → HasRead known all rest more
one_more known all left name bytes rest segments more has is are put = record {
  before = has.before ++ name ∷ [];
  are = append_assoc has.before (name ∷ []) rest ∙ ap (λ x. has.before ++ x) (sym is) ∙ has.are;
  read = subst (λ x. AreBytesOf known (has.before ++ name ∷ []) x) (sym put) (one_behind known has.before segments name bytes has.read are.0);
}

pub is_unread : (known : Known) (all left : List (List ℕ)) (name : List ℕ) (rest segments : List (List ℕ)) (unread : Unread) → HasRead known all left segments → left ≡ name ∷ rest → IsUnread known name unread → AreUnread known all unread
is_unread known all left name rest segments (TooLong n) has is why =
    record { before = has.before; name = name; after = rest; are = sym has.are ∙ ap (λ x. has.before ++ x) is; read = (segments, has.read); long = why }
is_unread known all left name rest segments (Failed n f) has is why = tt

pub all_read : (known : Known) (all segments : List (List ℕ)) → HasRead known all [] segments → AreBytesOf known all segments
all_read known all segments has = subst (λ x. AreBytesOf known x segments) (sym (append-nil has.before) ∙ has.are) has.read
