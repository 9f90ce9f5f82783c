use Rattle.std.proofs.Common.{◌≡◌, ◌∙◌, ap, subst, length, lit<, [], ◌∷◌, ◌++◌}
use Rattle.std.proofs.lemmas.List.{length_push}
use Rattle.std.proofs.lemmas.List.Elements.{All-same, All-push}
use Rattle.std.specs.Str.{IsUtf8}
use Rattle.std.proofs.lemmas.Iterator.Splits.{YieldsList-from_str_split}
use Rattle.std.proofs.lemmas.Iterator.Consumers.{YieldsList-turn, YieldsList-end}
use Rattle.std.specs.List.{slice_split}
use Rattle.mr_paths.specs.Text.{is_slash}
use Rattle.mr_paths.proofs.TextReading.{part_is_name, parts_more, parts_all}
use Rattle.mr_paths.proofs.path.read_names.Goals as goal

pub new-requires : goal.new-requires
new-requires c =
    let turn = YieldsList-turn (YieldsList-from_str_split 47 c.args.text.now (lit< tt) (cc) (cc) (cc)) c.loop-name.yielded _ c.loop-name.yielded_by _ _ c.in-Some.name c.in-Some.is c.next.ensures.steps in
    part_is_name (slice_split is_slash c.args.text.now) c.requires c.as_bytes.result.now (length c.loop-name.yielded) turn.0 cc

pub loop-name-preserved : goal.loop-name-preserved
loop-name-preserved c =
    let turn = YieldsList-turn (YieldsList-from_str_split 47 c.args.text.now (lit< tt) (cc) (cc) (cc)) c.loop-name.yielded _ c.loop-name.yielded_by _ _ c.in-Some.name c.in-Some.is c.next.ensures.steps in
    let same : c.in_ok-new.field-0 ≡ c.in-Some.name.now = c.in_ok-new.ensures ∙ c.as_bytes.ensures.value in
    let longer : c.push.new.self ≡ c.loop-name.path ++ c.in-Some.name.now ∷ [] = c.in_ok-push.ensures.ok ∙ ap (λ n. c.loop-name.path ++ n ∷ []) same in
    record {
      parts = parts_more (slice_split is_slash c.args.text.now) c.loop-name.path c.push.new.self c.in-Some.name.now (length c.loop-name.yielded) (length (c.loop-name.yielded ++ c.in-Some.name ∷ [])) turn.0 turn.1 c.loop-name.invariant.parts longer (length_push c.loop-name.yielded c.in-Some.name);
      utf8 = All-same IsUtf8 c.push.new.self (c.loop-name.path ++ c.in-Some.name.now ∷ []) longer (All-push IsUtf8 c.loop-name.path c.in-Some.name.now c.loop-name.invariant.utf8 (subst IsUtf8 c.as_bytes.ensures.value c.as_bytes.ensures.utf8));
    }

pub returns-clause-parts : goal.returns-clause-parts
returns-clause-parts c =
    let end = YieldsList-end (YieldsList-from_str_split 47 c.args.text.now (lit< tt) (cc) (cc) (cc)) c.loop-name.yielded _ c.loop-name.yielded_by _ _ c.in-None.is c.next.ensures.steps in
    parts_all (slice_split is_slash c.args.text.now) c.loop-name.path (length c.loop-name.yielded) end.1 c.loop-name.invariant.parts
