-- A line's words are those of the call, or of the answer, that it is written as.
use Rattle.std.proofs.Common.{◌≡◌, ◌<◌, ◌+◌, ℕ, true, List, [], ◌∷◌, ◌++◌, All, length, drop, get_or, map, Option, Some, None, Result, Ok, Err, codes, refl, sym, ap, ◌∙◌, append_assoc}
use Rattle.std.specs.List.{flat_map, list_all, slice_split}
use Rattle.std.proofs.lemmas.List.{drop_more}
use Rattle.std.proofs.lemmas.List.Elements.{All-head, All-tail}
use Rattle.percent_encoding.specs.Percent.{percent_decode}
use Rattle.mr_names_tree.specs.declared.node.Entry.{Entry}
use Rattle.mr_names_tree.specs.declared.node.Kind.TheVariants.{Dir, File}
use Rattle.mr_names.specs.declared.fault.NameFault.{NameFault}
use Rattle.mr_names.specs.declared.fault.NameFault.TheVariants as fault
use Rattle.mr_names.specs.declared.op.Answer.{Answer}
use Rattle.mr_names.specs.declared.op.Answer.TheVariants as answer
use Rattle.mr_names.specs.declared.op.Op.{Op}
use Rattle.mr_names.specs.declared.op.Op.TheVariants as op
use Rattle.mr_call_words.specs.declared.opening.Opening.TheVariants as opening
use Rattle.mr_call_words.specs.Words.{IsAnswer, IsCall, IsEntry, answer_line, answer_words, are_bytes, call_line, call_words, entry_text, line_of, word}
use Rattle.mr_call_words.specs.inner.Opening.{answer_opening, answer_rest, call_opening, call_rest, opening_text}
use Rattle.mr_call_words.specs.inner.Splits.{is_space}
use Rattle.mr_call_words.proofs.Sayable.{answer_bytes, call_bytes}
use Rattle.mr_call_words.proofs.Splits.{words_back}

pub call_parts : (call : Op) → call_words call ≡ opening_text (call_opening call) ∷ call_rest call
call_parts (op.Mkdirs path) = refl
call_parts (op.Create path closed) = refl
call_parts (op.Append path bytes) = refl
call_parts (op.Close path) = refl
call_parts (op.Delete path) = refl
call_parts (op.Rename from to) = refl
call_parts (op.List path) = refl
call_parts (op.Exists path) = refl
call_parts (op.Read path) = refl
call_parts (op.Bar a) = refl

pub answer_parts : (told : Result Answer NameFault) → answer_words told ≡ opening_text (answer_opening told) ∷ answer_rest told
answer_parts (Ok answer.Done) = refl
answer_parts (Ok (answer.Listed entries)) = refl
answer_parts (Ok (answer.Found None)) = refl
answer_parts (Ok (answer.Found (Some Dir))) = refl
answer_parts (Ok (answer.Found (Some File))) = refl
answer_parts (Ok (answer.Contents bytes)) = refl
answer_parts (Err (fault.Superseded fence)) = refl
answer_parts (Err fault.Barred) = refl
answer_parts (Err fault.Missing) = refl
answer_parts (Err fault.Exists) = refl
answer_parts (Err fault.NotDir) = refl
answer_parts (Err fault.NotFile) = refl
answer_parts (Err fault.Closed) = refl
answer_parts (Err fault.NoParent) = refl
answer_parts (Err fault.IntoItself) = refl
answer_parts (Err fault.Full) = refl
answer_parts (Err fault.NoMemory) = refl

-- words that are not none, as they are read
read_back : (words : List (List ℕ)) (first : List ℕ) (rest : List (List ℕ)) → words ≡ first ∷ rest → list_all are_bytes words ≡ true → map percent_decode (slice_split is_space (line_of words)) ≡ words
read_back words first rest parts h =
    ap (λ ws. map percent_decode (slice_split is_space (line_of ws))) parts
    ∙ words_back first rest (sym (ap (list_all are_bytes) parts) ∙ h)
    ∙ sym parts

pub call_found : (line : List ℕ) (words : List (List ℕ)) (call : Op) → words ≡ map percent_decode (slice_split is_space line) → IsCall call → line ≡ call_line call → words ≡ call_words call
unfolding call_line
call_found line words call is h e =
    is ∙ ap (λ l. map percent_decode (slice_split is_space l)) e ∙ read_back (call_words call) (opening_text (call_opening call)) (call_rest call) (call_parts call) (call_bytes call h)

pub answer_found : (line : List ℕ) (words : List (List ℕ)) (told : Result Answer NameFault) → words ≡ map percent_decode (slice_split is_space line) → IsAnswer told → line ≡ answer_line told → words ≡ answer_words told
unfolding answer_line
answer_found line words told is h e =
    is ∙ ap (λ l. map percent_decode (slice_split is_space l)) e ∙ read_back (answer_words told) (opening_text (answer_opening told)) (answer_rest told) (answer_parts told) (answer_bytes told h)

-- the words of entries one by one
pub entries_apart : (entries : List Entry) → flat_map (λ e. 32 ∷ word (entry_text e)) entries ≡ flat_map (λ bytes. 32 ∷ word bytes) (map entry_text entries)
entries_apart [] = refl
entries_apart (e ∷ entries) = ap (λ rest. (32 ∷ word (entry_text e)) ++ rest) (entries_apart entries)

-- The first of the entries that are left, by its word.
pub entry_step : (words : List (List ℕ)) (i : ℕ) (word : List ℕ) (rest : List Entry) → i < length words → word ≡ get_or words i word → drop i words ≡ map entry_text rest → All IsEntry rest →
    (e : Entry) × (more : List Entry) × (rest ≡ e ∷ more) × (word ≡ entry_text e) × IsEntry e × (drop (i + 1) words ≡ map entry_text more) × All IsEntry more
entry_step words i word [] within is left all = let some : get_or words i word ∷ drop (i + 1) words ≡ [] = sym (drop_more words i word within) ∙ left in absurd cc
entry_step words i word (e ∷ more) within is left all =
    let both : get_or words i word ∷ drop (i + 1) words ≡ entry_text e ∷ map entry_text more = sym (drop_more words i word within) ∙ left in
    let first : get_or words i word ≡ entry_text e = cc in
    let others : drop (i + 1) words ≡ map entry_text more = cc in
    (e, more, refl, is ∙ first, All-head IsEntry e more all, others, All-tail IsEntry e more all)

-- a line's first word and the others
pub call_apart : (words : List (List ℕ)) (first : List ℕ) (rest : List (List ℕ)) (call : Op) → words ≡ first ∷ rest → words ≡ call_words call → (first ≡ opening_text (call_opening call)) × (rest ≡ call_rest call)
call_apart words first rest call is e = let both : first ∷ rest ≡ opening_text (call_opening call) ∷ call_rest call = sym is ∙ e ∙ call_parts call in (cc, cc)

pub answer_apart : (words : List (List ℕ)) (first : List ℕ) (rest : List (List ℕ)) (told : Result Answer NameFault) → words ≡ first ∷ rest → words ≡ answer_words told → (first ≡ opening_text (answer_opening told)) × (rest ≡ answer_rest told)
answer_apart words first rest told is e = let both : first ∷ rest ≡ opening_text (answer_opening told) ∷ answer_rest told = sym is ∙ e ∙ answer_parts told in (cc, cc)

-- an answer whose first word is that of a listing is one
pub listing : (found : Option (Result Answer NameFault)) (rest : List (List ℕ)) (told : Result Answer NameFault) → IsAnswer told → opening.Entries ≡ answer_opening told → rest ≡ answer_rest told →
    ((entries : List Entry) → All IsEntry entries → rest ≡ map entry_text entries → found ≡ Some (Ok (answer.Listed entries))) → found ≡ Some told
listing found rest (Ok (answer.Listed entries)) h o e only = only entries h e
listing found rest (Ok answer.Done) h o e only = absurd cc
listing found rest (Ok (answer.Found None)) h o e only = absurd cc
listing found rest (Ok (answer.Found (Some Dir))) h o e only = absurd cc
listing found rest (Ok (answer.Found (Some File))) h o e only = absurd cc
listing found rest (Ok (answer.Contents bytes)) h o e only = absurd cc
listing found rest (Err (fault.Superseded fence)) h o e only = absurd cc
listing found rest (Err fault.Barred) h o e only = absurd cc
listing found rest (Err fault.Missing) h o e only = absurd cc
listing found rest (Err fault.Exists) h o e only = absurd cc
listing found rest (Err fault.NotDir) h o e only = absurd cc
listing found rest (Err fault.NotFile) h o e only = absurd cc
listing found rest (Err fault.Closed) h o e only = absurd cc
listing found rest (Err fault.NoParent) h o e only = absurd cc
listing found rest (Err fault.IntoItself) h o e only = absurd cc
listing found rest (Err fault.Full) h o e only = absurd cc
listing found rest (Err fault.NoMemory) h o e only = absurd cc

-- what a listing is written as
pub listed_text : (old mid new : List ℕ) (entries es : List Entry) → mid ≡ old ++ word (codes "entries") → new ≡ mid ++ flat_map (λ e. 32 ∷ word (entry_text e)) es → es ≡ entries → new ≡ old ++ line_of (codes "entries" ∷ map entry_text entries)
listed_text old mid new entries es front all is =
    all ∙ ap (λ l. l ++ flat_map (λ e. 32 ∷ word (entry_text e)) es) front
    ∙ append_assoc old (word (codes "entries")) (flat_map (λ e. 32 ∷ word (entry_text e)) es)
    ∙ ap (λ l. old ++ (word (codes "entries") ++ l)) (ap (flat_map (λ e. 32 ∷ word (entry_text e))) is ∙ entries_apart entries)
