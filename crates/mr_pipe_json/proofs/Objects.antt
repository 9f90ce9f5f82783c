-- No member of a line's object is a float.
use Rattle.std.proofs.Common.{◌≡◌, ◌||◌, ℕ, false, List, [], ◌∷◌, map, Some, None, refl, sym, ap, ◌∙◌}
use Rattle.std.specs.List.{slice_split}
use Rattle.serde_json.specs.Data.{Data}
use Rattle.serde_json.specs.View.{items_of, view}
use Rattle.serde_json.specs.Written.{has_float, items_have_float}
use Rattle.serde_json.specs.declared.value.Value.{Value}
use Rattle.mr_script.specs.Lines.{after, before}
use Rattle.mr_sim_json.specs.Members.{text}
use Rattle.mr_pipe_json.specs.Form.{is_space, line_object, words_behind, words_object}
use Rattle.mr_pipe_json.specs.declared.key.Key.{Key}
use Rattle.mr_pipe_json.specs.declared.key.Key.TheVariants.{Call, Answer, End, Error, Event}

texts_are_plain : (words : List (List ℕ)) → items_have_float (items_of (map text words)) ≡ false
texts_are_plain [] = refl
texts_are_plain (word ∷ words) = texts_are_plain words

object_is_plain : (key : Key) (line : List ℕ) → has_float (line_object key line) ≡ false
object_is_plain Call line = ap (λ b. b || false) (texts_are_plain (words_behind (after 32 line)))
object_is_plain Answer line = ap (λ b. b || false) (texts_are_plain (words_behind (after 32 line)))
object_is_plain End line = ap (λ b. b || false) (texts_are_plain (words_behind (after 32 line)))
object_is_plain Error line = ap (λ b. b || false) (texts_are_plain (words_behind (after 32 line)))
object_is_plain Event line = ap (λ b. b || false) (texts_are_plain (words_behind (after 32 line)))

pub is_plain : (v : Value) (key : Key) (line : List ℕ) → view v ≡ line_object key line → has_float (view v) ≡ false
is_plain v key line is = ap has_float is ∙ object_is_plain key line

-- ---- what a line is cut into

pub with_words : (v : Data) (key : Key) (line first rest : List ℕ) (words : List Data) → v ≡ words_object key first words → before 32 line ≡ first → after 32 line ≡ Some rest →
    words ≡ map text (slice_split is_space rest) → v ≡ line_object key line
with_words v key line first rest words is front back same =
    is
    ∙ ap (words_object key first) (same ∙ ap (λ o. map text (words_behind o)) (sym back))
    ∙ ap (λ f. words_object key f (map text (words_behind (after 32 line)))) (sym front)

pub alone : (v : Data) (key : Key) (line : List ℕ) → v ≡ words_object key line [] → before 32 line ≡ line → after 32 line ≡ None → v ≡ line_object key line
alone v key line is front back =
    is
    ∙ ap (λ o. words_object key line (map text (words_behind o))) (sym back)
    ∙ ap (λ f. words_object key f (map text (words_behind (after 32 line)))) (sym front)
