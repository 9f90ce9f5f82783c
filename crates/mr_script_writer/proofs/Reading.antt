-- The script of events is read as their commands.
use Rattle.std.proofs.Common.{◌≡◌, ◌≢◌, ◌<◌, ◌^◌, ◌+◌, ℕ, Bool, true, false, cond, ◌==◌, List, [], ◌∷◌, ◌++◌, map, refl, sym, ap, subst, ◌∙◌, append_assoc, ne_eqb, arith, codes, decimal}
use Rattle.std.specs.List.{AllByRecursion, flat_map}
use Rattle.std.specs.Char.{digit_value}
use Rattle.std.specs.Str.Parse.{AllDigits}
use Rattle.std.proofs.lemmas.Fmt.{decimal_is_IsNumeral}
use Rattle.mr_ids.specs.declared.id.JobId.{JobId}
use Rattle.mr_ids.specs.declared.id.TaskKind.{TaskKind}
use Rattle.mr_ids.specs.declared.id.TaskKind.TheVariants.{Map, Reduce}
use Rattle.mr_packet.specs.declared.packet.ContainerId.{ContainerId}
use Rattle.mr_world_events.specs.declared.event.Event.{Event}
use Rattle.mr_world_events.specs.declared.event.Event.TheVariants as event
use Rattle.mr_world_events.specs.declared.event.Weather.{Weather}
use Rattle.mr_world_events.specs.declared.event.Weather.TheVariants.{Calm, Unavailable, Unanswered}
use Rattle.mr_script.specs.declared.command.Command.{Command}
use Rattle.mr_script.specs.Lines.{onto_line, pieces_of, said, lines_of, AreLines}
use Rattle.mr_script.specs.Script.{AreCommands, IsCommand, IsContainer, IsGeneration, IsLine}
use Rattle.mr_script.specs.Words.{and_words, container_word, fault_word, kind_word}
use Rattle.mr_script_writer.specs.Laws.{CanBeSaid, numbered, ScriptsAreReadBack}
use Rattle.mr_script_writer.specs.Repeating.{command_line, comment, commented, repeating, said_by}

-- there is no line feed in it
abbrev Flat : List ℕ → Type 0
Flat xs = AllByRecursion (λ b. b ≢ 10) xs

cut : (w rest : List ℕ) → Flat w → pieces_of (w ++ 10 ∷ rest) ≡ w ∷ pieces_of rest
cut [] rest h = refl
cut (b ∷ w) rest h = rw (ne_eqb b 10 h.0) (ap (onto_line b) (cut w rest h.1))

-- ---- texts without a line feed

clash : false ≡ true → ⊥
clash e = cc

abbrev is-free : List ℕ → Bool
is-free [] = true
is-free (x ∷ xs) = cond (x == 10) false (is-free xs)

-- a text that is known, by a test
known : (xs : List ℕ) → is-free xs ≡ true → Flat xs
known [] e = tt
known (x ∷ xs) e = by (x == 10) refl e (known xs)
  where
    by : (t : Bool) → (x == 10) ≡ t → cond t false (is-free xs) ≡ true → (is-free xs ≡ true → Flat xs) → (x ≢ 10) × Flat xs
    by true is e more = absurd (clash e)
    by false is e more = ((λ same. clash (sym is ∙ ap (λ z. z == 10) same)), more e)

joined : (xs ys : List ℕ) → Flat xs → Flat ys → Flat (xs ++ ys)
joined [] ys g h = h
joined (x ∷ xs) ys g h = (g.0, joined xs ys g.1 h)

-- behind a space or a full stop
behind-one : (b : ℕ) (xs : List ℕ) → (b == 10) ≡ false → Flat xs → Flat (b ∷ xs)
behind-one b xs is h = ((λ same. clash (sym is ∙ ap (λ z. z == 10) same)), h)

digits : (ds : List ℕ) → AllDigits 10 ds → Flat ds
digits [] g = tt
digits (d ∷ ds) g = ((λ e. no-digit d e g.0), digits ds g.1)
  where
    no-digit : (d : ℕ) → d ≡ 10 → digit_value d < 10 → ⊥
    no-digit d e h = low (subst (λ z. digit_value z < 10) e h)
      where
        low : digit_value 10 < 10 → ⊥
        low h = absurd (omega (arith, h))

number : (n : ℕ) → n < 2 ^ 64 → Flat (decimal n)
number n h = digits (decimal n) (decimal_is_IsNumeral n h).0.1

two : (xs ys : List ℕ) → Flat xs → Flat ys → Flat (xs ++ 32 ∷ ys)
two xs ys g h = joined xs (32 ∷ ys) g (behind-one 32 ys refl h)

generation : (k : ℕ) → IsGeneration k → Flat (decimal k)
generation k h = number k (omega (arith, h.1))

small : (n : ℕ) → n < 2 ^ 32 → Flat (decimal n)
small n h = number n (omega (arith, h))

container : (c : ContainerId) → IsContainer c → Flat (container_word c)
container c h = joined (decimal c.app) (46 ∷ decimal c.number) (generation c.app h.0) (behind-one 46 (decimal c.number) refl (small c.number h.1))

kind : (k : TaskKind) → Flat (kind_word k)
kind Map = known (kind_word Map) refl
kind Reduce = known (kind_word Reduce) refl

weather : (xs : List ℕ) (w : Weather) → Flat xs → Flat (and_words xs (fault_word w))
weather xs Calm h = h
weather xs Unavailable h = two xs (codes "unavailable") h (known (codes "unavailable") refl)
weather xs Unanswered h = two xs (codes "unanswered") h (known (codes "unanswered") refl)

-- ---- one line

-- a line is some bytes without a line feed, and no comment
flat-line : (job : JobId) (e : Event) → IsCommand job (said_by e) → Flat (command_line e)
flat-line job (event.Start k kept) h = two (codes "start") _ (known (codes "start") refl) (two (decimal k) (decimal kept) (generation k h.0) (number kept h.1))
flat-line job (event.Crash k kept) h = two (codes "crash") _ (known (codes "crash") refl) (two (decimal k) (decimal kept) (generation k h.0) (number kept h.1))
flat-line job (event.Duty k fault) h = two (codes "duty") _ (known (codes "duty") refl) (weather (decimal k) fault (generation k h))
flat-line job (event.LaunchOn k t n) h =
    two (codes "launch") _ (known (codes "launch") refl)
    (two (decimal k) _ (generation k h.0) (two (kind_word t.kind) _ (kind t.kind) (two (decimal t.number) (decimal n) (small t.number h.1.0.1) (small n h.1.1))))
flat-line job (event.Deliver i) h = two (codes "deliver") (decimal i) (known (codes "deliver") refl) (number i h)
flat-line job (event.ContainerStep c fault) h = two (codes "step") _ (known (codes "step") refl) (weather (container_word c) fault (container c h))
flat-line job (event.Computed c bytes) h = two (codes "compute") (container_word c) (known (codes "compute") refl) (container c h)
flat-line job (event.Die c) h = two (codes "die") (container_word c) (known (codes "die") refl) (container c h)
flat-line job (event.NodeRestart n) h = two (codes "restart") (decimal n) (known (codes "restart") refl) (small n h)
flat-line job (event.Expire k n) h = two (codes "expire") _ (known (codes "expire") refl) (two (decimal k) (decimal n) (generation k h.0) (small n h.1))

-- a line is read as the command
one-line : (job : JobId) (n : ℕ) (e : Event) (lines : List (List ℕ)) (cs : List (ℕ × Command)) → IsCommand job (said_by e) → AreCommands job (n + 1) lines cs →
    AreCommands job n (said (command_line e) ∷ lines) ((n, said_by e) ∷ cs)
one-line job n (event.Start k kept) lines cs h more = (refl, (h, refl), more)
one-line job n (event.Crash k kept) lines cs h more = (refl, (h, refl), more)
one-line job n (event.Duty k fault) lines cs h more = (refl, (h, refl), more)
one-line job n (event.LaunchOn k t m) lines cs h more = (refl, (h, refl), more)
one-line job n (event.Deliver i) lines cs h more = (refl, (h, refl), more)
one-line job n (event.ContainerStep c fault) lines cs h more = (refl, (h, refl), more)
one-line job n (event.Computed c bytes) lines cs h more = (refl, (h, refl), more)
one-line job n (event.Die c) lines cs h more = (refl, (h, refl), more)
one-line job n (event.NodeRestart m) lines cs h more = (refl, (h, refl), more)
one-line job n (event.Expire k m) lines cs h more = (refl, (h, refl), more)

-- ---- comments

flat-pieces : (bytes : List ℕ) → AllByRecursion Flat (pieces_of bytes)
flat-pieces [] = tt
flat-pieces (b ∷ bytes) = by (b == 10) refl (flat-pieces bytes)
  where
    onto : (b == 10) ≡ false → (lines : List (List ℕ)) → AllByRecursion Flat lines → AllByRecursion Flat (onto_line b lines)
    onto is [] h = (behind-one b [] is tt, tt)
    onto is (line ∷ lines) h = (behind-one b line is h.0, h.1)

    by : (t : Bool) → (b == 10) ≡ t → AllByRecursion Flat (pieces_of bytes) → AllByRecursion Flat (cond t ([] ∷ pieces_of bytes) (onto_line b (pieces_of bytes)))
    by true is h = (tt, h)
    by false is h = onto is (pieces_of bytes) h

comments : (job : JobId) (n : ℕ) (lines : List (List ℕ)) → AllByRecursion Flat lines → AreCommands job n (lines_of (flat_map comment lines)) []
comments job n [] h = tt
comments job n (line ∷ lines) h =
    let flat : Flat (35 ∷ 32 ∷ line) = behind-one 35 (32 ∷ line) refl (behind-one 32 line refl h.0) in
    let e : comment line ++ flat_map comment lines ≡ (35 ∷ 32 ∷ line) ++ 10 ∷ flat_map comment lines = append_assoc (35 ∷ 32 ∷ line) (10 ∷ []) (flat_map comment lines) in
    subst (λ z. AreCommands job n z []) (sym (ap (map said) (ap pieces_of e ∙ cut (35 ∷ 32 ∷ line) (flat_map comment lines) flat))) (comments job (n + 1) lines h.1)

-- ---- a whole script

pub scripts_are_read_back_law : ScriptsAreReadBack
scripts_are_read_back_law job first [] text h = comments job first (pieces_of text) (flat-pieces text)
scripts_are_read_back_law job first (e ∷ events) text h =
    let line = command_line e in
    let rest = repeating events ++ commented text in
    let whole : repeating (e ∷ events) ++ commented text ≡ line ++ 10 ∷ rest =
    append_assoc (line ++ 10 ∷ []) (repeating events) (commented text) ∙ append_assoc line (10 ∷ []) rest in
    let pieces : pieces_of (repeating (e ∷ events) ++ commented text) ≡ line ∷ pieces_of rest = ap pieces_of whole ∙ cut line rest (flat-line job e h.0) in
    subst (λ z. AreCommands job first z (numbered first (e ∷ events))) (sym (ap (map said) pieces))
    (one-line job first e (lines_of rest) (numbered (first + 1) events) h.0 (scripts_are_read_back_law job (first + 1) events text h.1))
