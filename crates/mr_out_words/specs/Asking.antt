-- What the words of a command line ask for. Our own; which words were parsed is clap's.
use Rattle.std.specs.Prelude.{◌≡◌, ◌<◌, ◌^◌, ℕ, Bool, true, false, List, [], codes, Option, Some, None, unwrap_or}
use Rattle.std.specs.Str.Parse.{IsNumeral, digits_value, without_leading_plus}
use Rattle.clap.specs.declared.parser.matches.ArgMatches.{ArgMatches}
use Rattle.clap.specs.Words.{found_of, first_value, one_text, rows_of, subcommand_name_of, subcommand_rows_of}
use Rattle.mr_out_words.specs.declared.asked.Asked.{Asked}
use Rattle.mr_out_words.specs.declared.asked.Command.{Command}
use Rattle.mr_out_words.specs.declared.asked.Command.TheVariants.{Begin, Attempt, AttemptAll, Done, Fail, Publish, Abort, Resume, Forget, Status}
use Rattle.mr_out_words.specs.declared.asked.Failing.{Failing}
use Rattle.mr_out_words.specs.declared.asked.Failing.TheVariants.{One, Task, All}

-- ---- the words of one command

-- the text behind a word; none is empty
abbrev pub text_in : ArgMatches → List ℕ → List ℕ
text_in words id = unwrap_or (first_value (found_of words) id) []

-- a flag is as its text says; one that was not said is not set
abbrev pub IsFlag : ArgMatches → List ℕ → Bool → Type 0
IsFlag words id flag =
    (one_text (found_of words) id ≡ None → flag ≡ false)
    × ((one_text (found_of words) id ≡ Some (codes "true") → flag ≡ true)
    × (one_text (found_of words) id ≡ Some (codes "false") → flag ≡ false))

-- the number below 2 ^ bits that a text tells in digits, behind a plus or not; none where it tells no such number
abbrev pub IsToldBy : ℕ → List ℕ → Option ℕ → Type 0
IsToldBy bits text (Some n) = n ≡ digits_value 10 (without_leading_plus text)
IsToldBy bits text None = IsNumeral 10 (without_leading_plus text) × (digits_value 10 (without_leading_plus text) < 2 ^ bits) → ⊥

-- a number is as its text tells; one that was not said is none
abbrev pub IsNumber : ℕ → ArgMatches → List ℕ → Option ℕ → Type 0
IsNumber bits words id number =
    (one_text (found_of words) id ≡ None → number ≡ None)
    × ((text : List ℕ) → one_text (found_of words) id ≡ Some text → IsToldBy bits text number)

-- ---- what they ask for

abbrev pub IsFailingBy : ArgMatches → Failing → Type 0
IsFailingBy words (One text) = (text.now ≡ text_in words (codes "ATTEMPT")) × (IsNumber 32 words (codes "task") None × IsFlag words (codes "all") false)
IsFailingBy words (Task n) = IsNumber 32 words (codes "task") (Some n) × IsFlag words (codes "all") false
IsFailingBy words All = IsFlag words (codes "all") true

abbrev pub IsCommandBy : ArgMatches → Command → Type 0
IsCommandBy words (Begin tasks limit suffix hold again) =
    (told : Option ℕ) × IsNumber 32 words (codes "tasks") told × (tasks ≡ unwrap_or told 1) × IsNumber 32 words (codes "limit") limit × ((suffix.now ≡ text_in words (codes "suffix"))
    × (IsFlag words (codes "hold") hold × IsFlag words (codes "again") again))
IsCommandBy words (Attempt task over) =
    IsNumber 32 words (codes "task") task × (IsFlag words (codes "over") over × IsFlag words (codes "all") false)
IsCommandBy words AttemptAll = IsFlag words (codes "all") true
IsCommandBy words (Done attempt) = attempt.now ≡ text_in words (codes "ATTEMPT")
IsCommandBy words (Fail failing) = IsFailingBy words failing
IsCommandBy words (Resume here) = IsFlag words (codes "here") here
IsCommandBy words (Status json) = IsFlag words (codes "json") json
IsCommandBy words _ = Unit {0}

-- the name of the command
abbrev pub name_of : Command → List ℕ
name_of (Begin tasks limit suffix hold again) = codes "begin"
name_of (Attempt task over) = codes "attempt"
name_of AttemptAll = codes "attempt"
name_of (Done attempt) = codes "done"
name_of (Fail failing) = codes "fail"
name_of Publish = codes "publish"
name_of Abort = codes "abort"
name_of (Resume here) = codes "resume"
name_of Forget = codes "forget"
name_of (Status json) = codes "status"

-- the command of this name, with what these words tell of it
abbrev pub IsNamedBy : List ℕ → ArgMatches → Command → Type 0
IsNamedBy name words command = (name ≡ name_of command) × IsCommandBy words command

-- the words of the subcommand that was parsed ask for it, of the directory that they name
pub record IsAskedBy (matches : ArgMatches) (asked : Asked) : Type 0 where
  pub words : ArgMatches
  pub parsed : subcommand_rows_of matches ≡ Some (name_of asked.command, rows_of (found_of words))
  pub command : IsCommandBy words asked.command
  pub dir : asked.dir.now ≡ text_in words (codes "DIR")
  pub wait : IsNumber 64 words (codes "wait") asked.wait

-- no command has the name of the subcommand that was parsed, if one was
abbrev pub IsNoCommand : ArgMatches → Type 0
IsNoCommand matches = (command : Command) → subcommand_name_of matches ≡ Some (name_of command) → ⊥
