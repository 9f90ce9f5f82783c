-- A line of words as an object of JSON, and back: its first word at a key, those behind it at `words`. Our own format.
use Rattle.std.specs.Prelude.{ℕ, Bool, ◌==◌, List, [], ◌∷◌, ◌++◌, map, Option, Some, None, option_map, option_and_then, codes, if◌then◌else◌}
use Rattle.std.specs.List.{slice_split}
use Rattle.std.specs.Str.{is_utf8}
use Rattle.serde_json.specs.Data.{Data, Items, item, no_items}
use Rattle.serde_json.specs.Find.{as_array, as_str, get}
use Rattle.serde_json.specs.Read.{read}
use Rattle.mr_script.specs.Lines.{after, before}
use Rattle.mr_sim_json.specs.Members.{line_of, list, object_of, text}
use Rattle.mr_pipe.specs.declared.form.Form.{Form}
use Rattle.mr_pipe.specs.declared.form.Form.TheVariants.{Text, Json}
use Rattle.mr_pipe_json.specs.declared.key.Key.{Key}
use Rattle.mr_pipe_json.specs.declared.key.Key.TheVariants.{Call, Answer, End, Error, Event}

abbrev pub key_text : Key → List ℕ
key_text Call = codes "call"
key_text Answer = codes "answer"
key_text End = codes "end"
key_text Error = codes "error"
key_text Event = codes "event"

-- ---- what is written

abbrev pub is_space : ℕ → Bool
is_space b = b == 32

abbrev pub words_behind : Option (List ℕ) → List (List ℕ)
words_behind None = []
words_behind (Some rest) = slice_split is_space rest

abbrev pub words_object : Key → List ℕ → List Data → Data
words_object key first words = object_of ((key_text key, text first) ∷ (codes "words", list words) ∷ [])

abbrev pub line_object : Key → List ℕ → Data
line_object key line = words_object key (before 32 line) (map text (words_behind (after 32 line)))

abbrev pub said_as : Form → Key → List ℕ → List ℕ
said_as Text key line = line ++ 10 ∷ []
said_as Json key line = line_of (line_object key line)

-- ---- what is read

-- each word behind a space; none where one of them is no text
abbrev pub with_word : Option (List ℕ) → Option (List ℕ) → Option (List ℕ)
with_word None rest = None
with_word (Some word) rest = option_map (λ more. 32 ∷ word ++ more) rest

abbrev pub joined : Items → Option (List ℕ)
joined no_items = Some []
joined (item d ds) = with_word (as_str d) (joined ds)

-- where there is no list, there are no words
abbrev pub words_told : Option Data → Option (List ℕ)
words_told None = Some []
words_told (Some d) = option_and_then joined (as_array d)

abbrev pub line_in : Key → Data → Option (List ℕ)
line_in key d = option_and_then (λ first. option_map (λ rest. first ++ rest) (words_told (get (codes "words") d))) (option_and_then as_str (get (key_text key) d))

abbrev pub told_as : Form → Key → List ℕ → Option (List ℕ)
told_as Text key bytes = Some bytes
told_as Json key bytes = option_and_then (line_in key) (if is_utf8 bytes then read bytes else None)
