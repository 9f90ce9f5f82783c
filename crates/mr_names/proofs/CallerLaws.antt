-- The laws of who makes a call: the fence, the bars, and what a call answers and leaves.
use Rattle.std.proofs.Common.{◌≡◌, ◌+◌, ◌≤◌, Bool, true, false, not, ◌&&◌, ◌||◌, refl, sym, ap, ◌∙◌, subst, Option, Some, None, true≢false, arith, nat_lt, inl, inr, ◌⊎◌}
use Rattle.std.proofs.lemmas.Bool.{ltb-false, lt-ltb, le-ltb}
use Rattle.std.specs.Prelude.{Result, Ok, Err, is_ok}
use Rattle.std.specs.Ordering.{eq_by_cmp, is_eq}
use Rattle.std.specs.Cmp.{Equal-is, tied_itself}
use Rattle.std.specs.FinSet as set
use Rattle.mr_ids.specs.Attempt.{Attempt}
use Rattle.mr_names.specs.declared.fault.NameFault.{NameFault}
use Rattle.mr_names.specs.declared.fault.NameFault.TheVariants as fault
use Rattle.mr_names.specs.declared.op.Caller.{Caller}
use Rattle.mr_names.specs.declared.op.Answer.{Answer}
use Rattle.mr_names.specs.declared.op.Op.{Op}
use Rattle.mr_names.specs.declared.op.Op.TheVariants as op
use Rattle.mr_names.specs.declared.namespace.TheConstants.{MAX_ENTRIES, MAX_BARRED}
use Rattle.mr_names.specs.Attempts.{attempt_cmp, attempt_total, attempt_exact}
use Rattle.mr_names.specs.Barred.{Barred, bars, is_barred, has_no_room}
use Rattle.mr_names_tree.specs.Content.{IsTree}
use Rattle.mr_names.specs.Calls.{State, FilesFit, entry_count, own_refusal, unheard, refused, barred_after, settled, call_of}
use Rattle.mr_names.specs.Laws.{BelowTheFence, BarredIsRefused, IsHeard, HeardHasItsOwn, HeardIs, AnsweredIsHeard, HeardAlike, RefusedStays, AnsweredIsMade, AnsweredMayBeMade, FenceStays, TreeStays, SoundStays, bar_of, BarredGrow, OnlyBarBars, OthersBarNone, BarKeepsContent, BarBars, Becomes, at_once, by_call, by_raise, BarredForGood}
use Rattle.mr_names.proofs.TreeLaws.{row_passes, tree_effect, neither, past_caller}
use Rattle.mr_names.proofs.Limits.{entries_effect, files_effect}
use Rattle.mr_names.proofs.Callers.{unheard-low, unheard-barred, unheard-none, unheard-is}

-- ---- who is heard

pub refused_stays : RefusedStays
refused_stays s caller call why is = rw is refl

pub answered_is_made : AnsweredIsMade
answered_is_made s caller call passed = rw passed refl

pub heard-only : (s : State) (caller : Caller) → unheard s caller ≡ None → IsHeard s caller
unfolding unheard
heard-only s caller none =
    let a = row_passes (nat_lt caller.app s.fence) _ _ none in
    let b = row_passes (bars s.barred caller.attempt) _ _ a.1 in
    record { high = ltb-false caller.app s.fence a.0; free = b.0 }

pub heard-always : (s : State) (caller : Caller) → IsHeard s caller → unheard s caller ≡ None
heard-always s caller h = unheard-none s caller (le-ltb caller.app s.fence h.high) h.free

pub heard_is : HeardIs
heard_is = record { only = heard-only; always = heard-always; else_why = unheard-is }

refused-unheard : (s : State) (caller : Caller) (call : Op) (why : NameFault) → unheard s caller ≡ Some why → call_of s caller call ≡ (Err why, s)
refused-unheard s caller call why is = refused_stays s caller call why (rw is refl)

pub below_the_fence : BelowTheFence
below_the_fence s caller call low = refused-unheard s caller call (fault.Superseded s.fence) (unheard-low s caller (lt-ltb caller.app s.fence low))

pub barred_is_refused : BarredIsRefused
barred_is_refused s caller call high out = refused-unheard s caller call fault.Barred (unheard-barred s caller (le-ltb caller.app s.fence high) out)

pub heard_has_its_own : HeardHasItsOwn
heard_has_its_own s caller call h = rw (heard-always s caller h) refl

pub answered_is_heard : AnsweredIsHeard
answered_is_heard s caller call passed = heard-only s caller (neither (unheard s caller) _ passed).0

pub heard_alike : HeardAlike
heard_alike s one other call h g = ap (λ o. settled o s call) (heard_has_its_own s one call h ∙ sym (heard_has_its_own s other call g))

pub answered_may_be_made : AnsweredMayBeMade
answered_may_be_made = past_caller

-- ---- what stays

pub fence_stays : FenceStays
fence_stays s caller call = by (refused s caller call)
  where
    by : (o : Option NameFault) → (settled o s call).1.fence ≡ s.fence
    by None = refl
    by (Some why) = refl

pub tree_stays : TreeStays
tree_stays s caller call tree = by (refused s caller call) refl
  where
    by : (o : Option NameFault) → refused s caller call ≡ o → IsTree (settled o s call).1.content
    by None passed = tree_effect s.content call tree (past_caller s caller call passed)
    by (Some why) is = tree

-- ---- bars

-- a member more
len-more : (b : Barred) (a : Attempt) → has_no_room b a ≡ false → set.len b ≤ MAX_BARRED → set.len (set.insert b a) ≤ MAX_BARRED
len-more b a room few = by (set.contains b a) refl
  where
    by : (m : Bool) → set.contains b a ≡ m → set.len (set.insert b a) ≤ MAX_BARRED
    by true is = let n : set.len (set.insert b a) ≡ set.len b = set.len-insert attempt_total b a ∙ rw is refl in omega arith
    by false is =
        let n : set.len (set.insert b a) ≡ set.len b + 1 = set.len-insert attempt_total b a ∙ rw is refl in
        let m : nat_lt MAX_BARRED (set.len b + 1) ≡ false = sym (ap (λ c. not c && nat_lt MAX_BARRED (set.len b + 1)) is) ∙ room in
        let k = ltb-false _ _ m in
        omega arith

pub few_barred : (s : State) (call : Op) → own_refusal s call ≡ None → set.len s.barred ≤ MAX_BARRED → set.len (barred_after s.barred call) ≤ MAX_BARRED
few_barred s (op.Mkdirs path) passed few = few
few_barred s (op.Create path closed) passed few = few
few_barred s (op.Append path bytes) passed few = few
few_barred s (op.Close path) passed few = few
few_barred s (op.Delete path) passed few = few
few_barred s (op.Rename from to) passed few = few
few_barred s (op.List path) passed few = few
few_barred s (op.Exists path) passed few = few
few_barred s (op.Read path) passed few = few
few_barred s (op.Bar a) passed few = len-more s.barred a (row_passes (has_no_room s.barred a) _ _ passed).0 few

pub few_after : (s : State) (caller : Caller) (call : Op) → refused s caller call ≡ None → set.len s.barred ≤ MAX_BARRED → set.len (barred_after s.barred call) ≤ MAX_BARRED
few_after s caller call passed few = few_barred s call (neither (unheard s caller) _ passed).1 few

pub sound_stays : SoundStays
sound_stays s caller call sound = record {
  tree = tree_stays s caller call sound.tree;
  entries = kept_entries (refused s caller call) refl;
  files = kept_files (refused s caller call) refl;
  fence = subst (λ f. f ≤ 1000) (sym (fence_stays s caller call)) sound.fence;
  barred = by (refused s caller call) refl;
}
  where
    by : (o : Option NameFault) → refused s caller call ≡ o → set.len (settled o s call).1.barred ≤ MAX_BARRED
    by None passed = few_barred s call (neither (unheard s caller) _ passed).1 sound.barred
    by (Some why) is = sound.barred

    kept_entries : (o : Option NameFault) → refused s caller call ≡ o → entry_count (settled o s call).1.content ≤ MAX_ENTRIES
    kept_entries None passed = entries_effect s.content call (past_caller s caller call passed) sound.entries
    kept_entries (Some why) is = sound.entries

    kept_files : (o : Option NameFault) → refused s caller call ≡ o → FilesFit (settled o s call).1.content
    kept_files None passed = files_effect s.content call sound.tree (past_caller s caller call passed) sound.files
    kept_files (Some why) is = sound.files

one_of : (x y : Bool) → y ≡ true → (x || y) ≡ true
one_of true y e = refl
one_of false y e = e

-- who is barred after a bar
after-insert : (b : Barred) (a q : Attempt) → set.contains (set.insert b a) q ≡ (eq_by_cmp attempt_cmp q a || set.contains b q)
after-insert b a q = set.contains-insert attempt_total b a q

grown : (b : Barred) (call : Op) (q : Attempt) → is_barred b q ≡ true → is_barred (barred_after b call) q ≡ true
grown b (op.Mkdirs path) q is = is
grown b (op.Create path closed) q is = is
grown b (op.Append path bytes) q is = is
grown b (op.Close path) q is = is
grown b (op.Delete path) q is = is
grown b (op.Rename from to) q is = is
grown b (op.List path) q is = is
grown b (op.Exists path) q is = is
grown b (op.Read path) q is = is
grown b (op.Bar a) q is = after-insert b a q ∙ one_of _ _ is

pub barred_grow : BarredGrow
barred_grow s caller call a is = by (refused s caller call)
  where
    by : (o : Option NameFault) → is_barred (settled o s call).1.barred a ≡ true
    by None = grown s.barred call a is
    by (Some why) = is

still : {P : Type 0} (b : Bool) → b ≡ false → b ≡ true → P
still b out there = absurd (true≢false (sym there ∙ out))

-- who comes to be barred by a call
came : (b : Barred) (call : Op) (q : Attempt) → is_barred b q ≡ false → is_barred (barred_after b call) q ≡ true → bar_of call ≡ Some q
came b (op.Mkdirs path) q out there = still _ out there
came b (op.Create path closed) q out there = still _ out there
came b (op.Append path bytes) q out there = still _ out there
came b (op.Close path) q out there = still _ out there
came b (op.Delete path) q out there = still _ out there
came b (op.Rename from to) q out there = still _ out there
came b (op.List path) q out there = still _ out there
came b (op.Exists path) q out there = still _ out there
came b (op.Read path) q out there = still _ out there
came b (op.Bar a) q out there = by (eq_by_cmp attempt_cmp q a) refl
  where
    by : (m : Bool) → eq_by_cmp attempt_cmp q a ≡ m → Some a ≡ Some q
    by true tied = ap Some (sym (attempt_exact q a ((Equal-is (attempt_cmp q a)).0 tied)))
    by false apart = still (is_barred (barred_after b (op.Bar a)) q) (after-insert b a q ∙ ap (λ m. m || set.contains b q) apart ∙ out) there

pub only_bar_bars : OnlyBarBars
only_bar_bars s caller call a out there = by (refused s caller call) refl
  where
    by : (o : Option NameFault) → refused s caller call ≡ o → bar_of call ≡ Some a
    by None is = came s.barred call a out (sym (ap (λ o. is_barred (settled o s call).1.barred a) is) ∙ there)
    by (Some why) is = still (is_barred s.barred a) out (sym (ap (λ o. is_barred (settled o s call).1.barred a) is) ∙ there)

kept : (b : Barred) (call : Op) → bar_of call ≡ None → barred_after b call ≡ b
kept b (op.Mkdirs path) none = refl
kept b (op.Create path closed) none = refl
kept b (op.Append path bytes) none = refl
kept b (op.Close path) none = refl
kept b (op.Delete path) none = refl
kept b (op.Rename from to) none = refl
kept b (op.List path) none = refl
kept b (op.Exists path) none = refl
kept b (op.Read path) none = refl
kept b (op.Bar a) none = absurd (cc)

pub others_bar_none : OthersBarNone
others_bar_none s caller call none = by (refused s caller call)
  where
    by : (o : Option NameFault) → (settled o s call).1.barred ≡ s.barred
    by None = kept s.barred call none
    by (Some why) = refl

pub bar_keeps_content : BarKeepsContent
bar_keeps_content s caller a = by (refused s caller (op.Bar a))
  where
    by : (o : Option NameFault) → (settled o s (op.Bar a)).1.content ≡ s.content
    by None = refl
    by (Some why) = refl

-- an attempt that was put in is there
put_in : (b : Barred) (a : Attempt) → is_barred (set.insert b a) a ≡ true
put_in b a = after-insert b a a ∙ ap (λ o. is_eq o || set.contains b a) (tied_itself attempt_total a)

pub bar_bars : BarBars
bar_bars s t caller a said is = by (refused s caller (op.Bar a)) is
  where
    by : (o : Option NameFault) → settled o s (op.Bar a) ≡ (Ok said, t) → is_barred t.barred a ≡ true
    by None made = ap (λ (p : Result Answer NameFault × State). is_barred p.1.barred a) (sym made) ∙ put_in s.barred a
    by (Some why) made = absurd (true≢false (sym (ap (λ (p : Result Answer NameFault × State). is_ok p.0) made)))

stays_barred : (s u : State) (a : Attempt) → is_barred s.barred a ≡ true → Becomes s u → is_barred u.barred a ≡ true
stays_barred s u a is at_once = is
stays_barred s u a is (by_call t caller call path) = barred_grow t caller call a (stays_barred s t a is path)
stays_barred s u a is (by_raise t app path) = stays_barred s t a is path

pub barred_for_good : BarredForGood
barred_for_good s t u by caller a said call made path its =
    let out : bars u.barred caller.attempt ≡ true = ap (bars u.barred) its ∙ stays_barred t u a (bar_bars s t by a said made) path in
    choose (nat_lt caller.app u.fence) refl out
  where
    choose : (b : Bool) → nat_lt caller.app u.fence ≡ b → bars u.barred caller.attempt ≡ true
        → (call_of u caller call ≡ (Err (fault.Superseded u.fence), u)) ⊎ (call_of u caller call ≡ (Err fault.Barred, u))
    choose true low out = inl (refused-unheard u caller call (fault.Superseded u.fence) (unheard-low u caller low))
    choose false high out = inr (refused-unheard u caller call fault.Barred (unheard-barred u caller high out))
