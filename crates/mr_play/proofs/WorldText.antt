-- What is printed of a world.
use Rattle.std.proofs.Common.{◌≡◌, ℕ, zero, suc, ◌+◌, Bool, List, ◌++◌, map, Option, refl, ap, ◌∙◌, append_assoc}
use Rattle.std.specs.List.{flat_map, range_with_len}
use Rattle.mr_ids.specs.Attempt.{Attempt}
use Rattle.mr_world_model.specs.Ids.{Name, marker, reduce_of}
use Rattle.mr_world_model.specs.Content.{entry_at, is_file}
use Rattle.mr_world_model.specs.Packets.{Config}
use Rattle.mr_world_model.specs.World.{World}
use Rattle.mr_world_model.specs.Claims.{winner}
use Rattle.mr_world_model.specs.Results.{outcome, visible}
use Rattle.mr_play.specs.WorldText.{line_of_marker, line_of_outcome, line_of_winner, marker_line, outcome_line, visible_text, winner_line, world_text}
use Rattle.mr_script_writer.specs.Results.{winners_text}

winners-are : (found : ℕ → Option Attempt) (a n : ℕ) → winners_text a (map found (range_with_len a n)) ≡ flat_map (λ r. line_of_winner r (found r)) (range_with_len a n)
winners-are found a zero = refl
winners-are found a (suc n) = ap (λ l. line_of_winner a (found a) ++ l) (winners-are found (a + 1) n)

-- what four calls added, as one text behind what was there
behind : (out a b c d w m t v : List ℕ) → a ≡ out ++ w → b ≡ a ++ m → c ≡ b ++ t → d ≡ c ++ v → d ≡ out ++ (w ++ m ++ t ++ v)
behind out a b c d w m t v winners marker outcome files =
    files
    ∙ ap (λ l. l ++ v) (outcome ∙ ap (λ l. l ++ t) (marker ∙ ap (λ l. l ++ m) winners))
    ∙ ap (λ l. l ++ t ++ v) (append_assoc out w m)
    ∙ ap (λ l. l ++ v) (append_assoc out (w ++ m) t)
    ∙ append_assoc out (w ++ m ++ t) v

pub world-is-printed : (cfg : Config) (w : World) (out a b c d : List ℕ) (winners : List (Option Attempt)) (there : Bool) (told : Option Bool) (files : List (Name × List ℕ))
    → winners ≡ map (λ r. winner w (reduce_of cfg.job r)) (range_with_len 0 cfg.reduces) → there ≡ is_file (entry_at w.content marker) → told ≡ outcome w → files ≡ visible w
    → a ≡ out ++ winners_text 0 winners → b ≡ a ++ line_of_marker there → c ≡ b ++ line_of_outcome told → d ≡ c ++ flat_map visible_text files
    → d ≡ out ++ world_text cfg w
unfolding world_text
world-is-printed cfg w out a b c d winners there told files is-winners is-there is-told is-files to-winners to-marker to-outcome to-files =
    behind out a b c d (flat_map (winner_line cfg w) (range_with_len 0 cfg.reduces)) (marker_line w) (outcome_line w) (flat_map visible_text (visible w))
    (to-winners ∙ ap (λ l. out ++ l) (ap (winners_text 0) is-winners ∙ winners-are (λ r. winner w (reduce_of cfg.job r)) 0 cfg.reduces))
    (to-marker ∙ ap (λ x. a ++ line_of_marker x) is-there)
    (to-outcome ∙ ap (λ x. b ++ line_of_outcome x) is-told)
    (to-files ∙ ap (λ l. c ++ flat_map visible_text l) is-files)
