-- What has a line has words of bytes.
use Rattle.std.proofs.Common.{◌≡◌, ◌<◌, ◌≤◌, ◌^◌, ℕ, Bool, true, false, List, [], ◌∷◌, ◌++◌, ◌&&◌, All, Some, None, Result, Ok, Err, refl, sym, ap, ◌∙◌, arith, nat_lt, map, decimal, codes, suc, get_or}
use Rattle.mr_paths.specs.Path.{IsName}
use Rattle.std.specs.List.{list_all, join_with_byte}
use Rattle.std.proofs.lemmas.Bool.{true≢false}
use Rattle.std.proofs.lemmas.Bool.Decides.{nat_tests}
use Rattle.std.proofs.lemmas.List.Elements.{All-head, All-tail, All-push}
use Rattle.std.proofs.lemmas.List.Folds.{list_all-append}
use Rattle.mr_ids.specs.Attempt.{Attempt}
use Rattle.mr_ids.specs.Text.{IsAttempt, attempt_text, numeral}
use Rattle.mr_ids.proofs.Shown.{decimal-numeral}
use Rattle.mr_ids.proofs.Texts.{plain-All, attempt_text_plain, numeral_is_plain}
use Rattle.std.specs.Char.{is_ascii_alphanumeric}
use Rattle.std.specs.List.{AllByRecursion}
use Rattle.mr_ids.specs.Text.{is_bar}
use Rattle.std.specs.Prelude.{◌||◌}
use Rattle.mr_paths.specs.Text.{path_text}
use Rattle.mr_names_tree.specs.declared.node.Entry.{Entry}
use Rattle.mr_names_tree.specs.declared.node.Kind.{Kind}
use Rattle.mr_names_tree.specs.declared.node.Kind.TheVariants.{Dir, File}
use Rattle.mr_names.specs.declared.fault.NameFault.{NameFault}
use Rattle.mr_names.specs.declared.fault.NameFault.TheVariants as fault
use Rattle.mr_names.specs.declared.op.Answer.{Answer}
use Rattle.mr_names.specs.declared.op.Answer.TheVariants as answer
use Rattle.mr_names.specs.declared.op.Op.{Op}
use Rattle.mr_names.specs.declared.op.Op.TheVariants as op
use Rattle.mr_call_words.specs.Words.{are_bytes, AreBytes, IsAnswer, IsCall, IsEntry, IsPath, answer_words, call_words, closed_words, entry_text, kind_mark}

both : (x y : Bool) → (x && y) ≡ true → (x ≡ true) × (y ≡ true)
both true y h = (refl, h)
both false y h = absurd (true≢false (sym h))

joined : (x y : Bool) → x ≡ true → y ≡ true → (x && y) ≡ true
joined true y e h = h
joined false y e h = absurd (true≢false (sym e))

one : (bytes : List ℕ) → are_bytes bytes ≡ true → list_all are_bytes (bytes ∷ []) ≡ true
one bytes h = joined (are_bytes bytes) true h refl

two : (first next : List ℕ) → are_bytes first ≡ true → are_bytes next ≡ true → list_all are_bytes (first ∷ next ∷ []) ≡ true
two first next h k = joined (are_bytes first) (list_all are_bytes (next ∷ [])) h (one next k)

-- bytes by their places
pub small : (bytes : List ℕ) → ((i : ℕ) → get_or bytes i 0 < 256) → are_bytes bytes ≡ true
small [] h = refl
small (b ∷ bytes) h = joined (nat_lt b 256) (are_bytes bytes) (let first : b < 256 = h 0 in grind (arith, nat_tests)) (small bytes (λ i. h (suc i)))

-- a path with a name more
pub name_more : (path : List (List ℕ)) (name : List ℕ) → IsPath path → IsName name → AreBytes name → IsPath (path ++ name ∷ [])
name_more path name h is fits =
    (All-push IsName path name h.0 is, list_all-append are_bytes path (name ∷ []) ∙ joined (list_all are_bytes path) (list_all are_bytes (name ∷ [])) h.1 (one name fits))

appended : (xs ys : List ℕ) → are_bytes xs ≡ true → are_bytes ys ≡ true → are_bytes (xs ++ ys) ≡ true
appended xs ys h k = list_all-append (λ b. nat_lt b 256) xs ys ∙ joined (are_bytes xs) (are_bytes ys) h k

names_joined : (path : List (List ℕ)) → list_all are_bytes path ≡ true → are_bytes (join_with_byte 47 path) ≡ true
names_joined [] h = refl
names_joined (name ∷ []) h = (both (are_bytes name) true h).0
names_joined (name ∷ next ∷ path) h =
    let parts = both (are_bytes name) (list_all are_bytes (next ∷ path)) h in
    appended name (47 ∷ join_with_byte 47 (next ∷ path)) parts.0 (names_joined (next ∷ path) parts.1)

path_bytes : (path : List (List ℕ)) → IsPath path → are_bytes (path_text path) ≡ true
path_bytes path h = names_joined path h.1

plain_small : (b : ℕ) → 48 ≤ b → b ≤ 122 → nat_lt b 256 ≡ true
plain_small b least most = grind (arith, nat_tests)

plain_bytes : (bytes : List ℕ) → list_all (λ b. is_ascii_alphanumeric b || is_bar b) bytes ≡ true → are_bytes bytes ≡ true
plain_bytes bytes h = by bytes (plain-All (λ b. nat_lt b 256 ≡ true) plain_small bytes h)
  where
    by : (bytes : List ℕ) → AllByRecursion (λ b. nat_lt b 256 ≡ true) bytes → are_bytes bytes ≡ true
    by [] all = refl
    by (b ∷ bytes) all = joined (nat_lt b 256) (are_bytes bytes) all.0 (by bytes all.1)

attempt_bytes : (a : Attempt) → IsAttempt a → are_bytes (attempt_text a) ≡ true
attempt_bytes a h = plain_bytes (attempt_text a) (attempt_text_plain a h).plain

closed : (path : List ℕ) (c : Bool) → are_bytes path ≡ true → list_all are_bytes (path ∷ closed_words c) ≡ true
closed path true h = two path (codes "closed") h refl
closed path false h = one path h

pub call_bytes : (call : Op) → IsCall call → list_all are_bytes (call_words call) ≡ true
call_bytes (op.Mkdirs path) h = one (path_text path) (path_bytes path h)
call_bytes (op.Create path c) h = closed (path_text path) c (path_bytes path h)
call_bytes (op.Append path bytes) h = two (path_text path) bytes (path_bytes path h.0) h.1
call_bytes (op.Close path) h = one (path_text path) (path_bytes path h)
call_bytes (op.Delete path) h = one (path_text path) (path_bytes path h)
call_bytes (op.Rename from to) h = two (path_text from) (path_text to) (path_bytes from h.0) (path_bytes to h.1)
call_bytes (op.List path) h = one (path_text path) (path_bytes path h)
call_bytes (op.Exists path) h = one (path_text path) (path_bytes path h)
call_bytes (op.Read path) h = one (path_text path) (path_bytes path h)
call_bytes (op.Bar a) h = one (attempt_text a) (attempt_bytes a h)

fence_bytes : (fence : ℕ) → fence < 2 ^ 32 → are_bytes (decimal fence) ≡ true
fence_bytes fence h =
    ap are_bytes (decimal-numeral fence (omega arith)) ∙ plain_bytes (numeral 1 fence) (numeral_is_plain 10 fence (omega arith) (omega arith) (omega arith)).plain

marked : (name : List ℕ) (kind : Kind) → are_bytes name ≡ true → are_bytes (name ++ kind_mark kind) ≡ true
marked name Dir h = appended name (47 ∷ []) h refl
marked name File h = appended name [] h refl

entries_bytes : (entries : List Entry) → All IsEntry entries → list_all are_bytes (map entry_text entries) ≡ true
entries_bytes [] all = refl
entries_bytes (e ∷ entries) all =
    joined (are_bytes (entry_text e)) (list_all are_bytes (map entry_text entries)) (marked e.name e.kind (All-head IsEntry e entries all).1) (entries_bytes entries (All-tail IsEntry e entries all))

pub answer_bytes : (told : Result Answer NameFault) → IsAnswer told → list_all are_bytes (answer_words told) ≡ true
answer_bytes (Ok answer.Done) h = refl
answer_bytes (Ok (answer.Listed entries)) h = entries_bytes entries h
answer_bytes (Ok (answer.Found None)) h = refl
answer_bytes (Ok (answer.Found (Some Dir))) h = refl
answer_bytes (Ok (answer.Found (Some File))) h = refl
answer_bytes (Ok (answer.Contents bytes)) h = one bytes h
answer_bytes (Err (fault.Superseded fence)) h = one (decimal fence) (fence_bytes fence h)
answer_bytes (Err fault.Barred) h = refl
answer_bytes (Err fault.Missing) h = refl
answer_bytes (Err fault.Exists) h = refl
answer_bytes (Err fault.NotDir) h = refl
answer_bytes (Err fault.NotFile) h = refl
answer_bytes (Err fault.Closed) h = refl
answer_bytes (Err fault.NoParent) h = refl
answer_bytes (Err fault.IntoItself) h = refl
answer_bytes (Err fault.Full) h = refl
answer_bytes (Err fault.NoMemory) h = refl
