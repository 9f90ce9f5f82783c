-- What an object tells.
use Rattle.std.proofs.Common.{◌≡◌, ℕ, Bool, true, false, List, [], ◌++◌, append-nil, Option, Some, None, cond, codes, option_map, option_and_then, refl, sym, ap, ◌∙◌}
use Rattle.std.specs.Str.{IsUtf8, is_utf8}
use Rattle.std.proofs.lemmas.Str.{IsUtf8-from_is_utf8}
use Rattle.serde_json.specs.Data.{Data}
use Rattle.serde_json.specs.Find.{as_str, get}
use Rattle.serde_json.specs.Read.{read}
use Rattle.mr_pipe_json.specs.Form.{key_text, line_in, told_as, words_told}
use Rattle.mr_pipe_json.specs.declared.key.Key.{Key}
use Rattle.mr_pipe.specs.declared.form.Form.TheVariants.{Json}
use Rattle.mr_pipe_json.specs.inner.Joins.{PutsWords}

pub no_first : (key : Key) (d : Data) → None ≡ option_and_then as_str (get (key_text key) d) → None ≡ line_in key d
no_first key d is = ap (option_and_then (λ first. option_map (λ rest. first ++ rest) (words_told (get (codes "words") d)))) is

first_is : (key : Key) (d : Data) (first : List ℕ) (list : Option Data) → Some first ≡ option_and_then as_str (get (key_text key) d) → list ≡ get (codes "words") d →
    line_in key d ≡ option_map (λ rest. first ++ rest) (words_told list)
first_is key d first list is listed =
    ap (option_and_then (λ first. option_map (λ rest. first ++ rest) (words_told (get (codes "words") d)))) (sym is)
    ∙ ap (λ l. option_map (λ rest. first ++ rest) (words_told l)) (sym listed)

pub no_words : (key : Key) (d : Data) (first old new : List ℕ) (list : Option Data) → Some first ≡ option_and_then as_str (get (key_text key) d) → list ≡ get (codes "words") d →
    PutsWords false old new (words_told list) → None ≡ line_in key d
no_words key d first old new list is listed puts = sym (first_is key d first list is listed ∙ ap (option_map (λ rest. first ++ rest)) puts)

pub some_line : (key : Key) (d : Data) (first old new : List ℕ) (list : Option Data) → Some first ≡ option_and_then as_str (get (key_text key) d) → old ≡ first → list ≡ get (codes "words") d →
    PutsWords true old new (words_told list) → Some new ≡ line_in key d
some_line key d first old new list is same listed puts =
    ap (λ x. Some x) (puts.2 ∙ ap (λ o. o ++ puts.0) same) ∙ sym (first_is key d first list is listed ∙ ap (option_map (λ rest. first ++ rest)) puts.1)

pub no_list : (key : Key) (d : Data) (first new : List ℕ) → Some first ≡ option_and_then as_str (get (key_text key) d) → new ≡ first → None ≡ get (codes "words") d → Some new ≡ line_in key d
no_list key d first new is same listed = some_line key d first new new None is same listed ([], refl, sym (append-nil new))

refused_at : (b : Bool) (r : Option Data) → (b ≡ true → r ≡ None) → cond b r None ≡ None
refused_at true r h = h refl
refused_at false r h = refl

pub refused : (key : Key) (bytes : List ℕ) → (IsUtf8 bytes → read bytes ≡ None) → None ≡ told_as Json key bytes
refused key bytes h = ap (option_and_then (line_in key)) (sym (refused_at (is_utf8 bytes) (read bytes) (λ u. h (IsUtf8-from_is_utf8 bytes u))))
