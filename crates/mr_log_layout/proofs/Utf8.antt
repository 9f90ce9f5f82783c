-- The line of a job is UTF-8.
use Rattle.std.proofs.Common.{◌≡◌, ℕ, Bool, true, false, ◌||◌, nat_lt, List, [], ◌∷◌, ◌++◌, codes, Option, Some, None, IsUtf8, refl, subst, arith, append_assoc}
use Rattle.std.specs.List.{list_all}
use Rattle.std.specs.Char.{is_ascii_alphanumeric}
use Rattle.std.specs.String.{string_bytes}
use Rattle.std.proofs.lemmas.Bool.{and_parts}
use Rattle.std.proofs.lemmas.Bool.Decides.{nat_tests}
use Rattle.std.proofs.lemmas.Str.{IsUtf8-append}
use Rattle.json.proofs.Printed.Utf8.{are_ascii, IsUtf8-are_ascii, IsUtf8-quoted, IsUtf8-key, IsUtf8-boolean}
use Rattle.serde_json.specs.Data.{Members, member, no_members, object, boolean, number, unsigned, string}
use Rattle.serde_json.specs.Written.{compact_text, members_text, comma_if}
use Rattle.json.specs.Print.{quoted}
use Rattle.mr_ids.specs.Text.{is_bar, job_text}
use Rattle.mr_ids.proofs.Texts.{job_text_plain}
use Rattle.mr_history.proofs.Lines.{number_utf8}
use Rattle.mr_log_layout.specs.declared.job.Job.{Job}
use Rattle.mr_log_layout.specs.Jobs.{data_of, limit_data, IsTold, IsLimit}
use Rattle.mr_log_layout.specs.Paths.{is_suffix_byte, is_suffix}

-- ---- an object whose keys and values are

abbrev AreUtf8 : Members → Type 0
AreUtf8 no_members = Unit {0}
AreUtf8 (member k d ms) = IsUtf8 k × (IsUtf8 (compact_text d) × AreUtf8 ms)

comma_utf8 : (later : Bool) → IsUtf8 (comma_if later)
comma_utf8 true = IsUtf8-are_ascii (44 ∷ []) refl
comma_utf8 false = IsUtf8-are_ascii [] refl

members_utf8 : (later : Bool) (ms : Members) → AreUtf8 ms → IsUtf8 (members_text later ms)
members_utf8 later no_members h = IsUtf8-are_ascii (125 ∷ []) refl
members_utf8 later (member k d ms) h =
    let value = IsUtf8-append (compact_text d) (members_text true ms) h.1.0 (members_utf8 true ms h.1.1) in
    let own = IsUtf8-append (quoted k ++ 58 ∷ []) (compact_text d ++ members_text true ms) (IsUtf8-key k h.0) value in
    IsUtf8-append (comma_if later) (quoted k ++ 58 ∷ (compact_text d ++ members_text true ms)) (comma_utf8 later)
    (subst IsUtf8 (append_assoc (quoted k) (58 ∷ []) (compact_text d ++ members_text true ms)) own)

-- ---- its texts

low_plain : (p : ℕ → Bool) → ((b : ℕ) → p b ≡ true → nat_lt b 128 ≡ true) → (xs : List ℕ) → list_all p xs ≡ true → are_ascii xs ≡ true
low_plain p low [] h = refl
low_plain p low (x ∷ xs) h = let q = and_parts (p x) (list_all p xs) h in let first = low x q.0 in rw first (low_plain p low xs q.1)

low_letter : (b : ℕ) → (is_ascii_alphanumeric b || is_bar b) ≡ true → nat_lt b 128 ≡ true
low_letter b h = grind (arith, nat_tests)

low_suffix : (b : ℕ) → is_suffix_byte b ≡ true → nat_lt b 128 ≡ true
low_suffix b h = grind (arith, nat_tests)

suffix_utf8 : (s : List ℕ) → is_suffix s ≡ true → IsUtf8 s
suffix_utf8 s h = IsUtf8-are_ascii s (low_plain is_suffix_byte low_suffix s (and_parts _ (list_all is_suffix_byte s) h).1)

limit_utf8 : (limit : Option ℕ) → IsLimit limit → IsUtf8 (compact_text (limit_data limit))
limit_utf8 None h = IsUtf8-are_ascii (codes "null") refl
limit_utf8 (Some n) h = let few = h.1 in number_utf8 n (omega arith)

key : (k : List ℕ) → are_ascii k ≡ true → IsUtf8 k
key k h = IsUtf8-are_ascii k h

abbrev own_members : Job → Members
own_members job =
    member (codes "folders") (boolean job.folders)
    (member (codes "hold") (boolean job.hold)
    (member (codes "job") (string (job_text job.id))
    (member (codes "limit") (limit_data job.limit)
    (member (codes "shared") (boolean job.shared)
    (member (codes "suffix") (string (string_bytes job.suffix))
    (member (codes "tasks") (number (unsigned job.tasks))
    (member (codes "uid") (number (unsigned job.uid))
    (member (codes "version") (number (unsigned 2)) no_members))))))))

object_utf8 : (ms : Members) → AreUtf8 ms → IsUtf8 (compact_text (object ms))
object_utf8 ms h = IsUtf8-append (123 ∷ []) (members_text false ms) (IsUtf8-are_ascii (123 ∷ []) refl) (members_utf8 false ms h)

pub line_utf8 : (job : Job) → IsTold job → IsUtf8 (compact_text (data_of job))
line_utf8 job is =
    let few = is.few in
    let text = IsUtf8-are_ascii (job_text job.id) (low_plain (λ b. is_ascii_alphanumeric b || is_bar b) low_letter (job_text job.id) (job_text_plain job.id is.id).plain) in
    object_utf8 (own_members job) (
      key (codes "folders") refl,
      (
        IsUtf8-boolean job.folders,
        (
          key (codes "hold") refl,
          (
            IsUtf8-boolean job.hold,
            (
              key (codes "job") refl,
              (
                IsUtf8-quoted (job_text job.id) text,
                (
                  key (codes "limit") refl,
                  (
                    limit_utf8 job.limit is.limit,
                    (
                      key (codes "shared") refl,
                      (
                        IsUtf8-boolean job.shared,
                        (
                          key (codes "suffix") refl,
                          (
                            IsUtf8-quoted (string_bytes job.suffix) (suffix_utf8 (string_bytes job.suffix) is.suffix),
                            (
                              key (codes "tasks") refl,
                              (
                                number_utf8 job.tasks (omega arith),
                                (
                                  key (codes "uid") refl,
                                  (
                                    number_utf8 job.uid is.uid,
                                    (key (codes "version") refl, (number_utf8 2 (omega arith), tt)),
                                  ),
                                ),
                              ),
                            ),
                          ),
                        ),
                      ),
                    ),
                  ),
                ),
              ),
            ),
          ),
        ),
      ),
    )
