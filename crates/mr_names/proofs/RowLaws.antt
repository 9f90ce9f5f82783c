-- The runs of calls, computed.
use Rattle.std.proofs.Common.{◌≡◌, ℕ, ◌+◌, Bool, true, false, cond, List, [], ◌∷◌, length, refl, sym, ap, ◌∙◌, Option, Some, None, arith}
use Rattle.std.specs.Prelude.{Ok, Err, codes}
use Rattle.std.specs.FinMap as finite
use Rattle.std.specs.FinSet as set
use Rattle.std.specs.FinMap.Entries.{put}
use Rattle.mr_paths.specs.Path.{path_cmp, path_total, path_exact}
use Rattle.mr_names_tree.specs.declared.node.Node.{Node}
use Rattle.mr_names_tree.specs.declared.node.Node.TheVariants.{Dir, File}
use Rattle.mr_names.specs.declared.fault.NameFault.{NameFault}
use Rattle.mr_names.specs.declared.fault.NameFault.TheVariants as fault
use Rattle.mr_names.specs.declared.op.Op.{Op}
use Rattle.mr_names.specs.declared.op.Op.TheVariants as op
use Rattle.mr_names.specs.declared.op.Answer.{Answer}
use Rattle.mr_names.specs.declared.op.Answer.TheVariants as answers
use Rattle.std.specs.List.{filter_map}
use Rattle.std.specs.Ordering.{eq_by_cmp}
use Rattle.mr_names_tree.specs.Listing.{entry_of, line_of}
use Rattle.mr_names_tree.specs.Content.{Content}
use Rattle.mr_names.specs.Calls.{raised, unheard, own_refusal, barred_after, effect, answer, call_of}
use Rattle.mr_names.specs.Rows.{first_master, ended, call_then, with_entries, root_alone, with_a_b, with_a_b_f, with_f, NamespaceRefusals, RootRefusals, ReadAndForesee}
use Rattle.mr_names.proofs.Callers.{unheard-low}
use Rattle.mr_names.proofs.CallerLaws.{refused_stays, answered_is_made}

abbrev held : List (List (List ℕ) × Node) → Content
held es = finite.from_entries es

look : (es : List (List (List ℕ) × Node)) (q : List (List ℕ)) → finite.get (held es) q ≡ finite.find path_cmp q es
look es q = finite.get-from_entries path_total es q

one_more : (es : List (List (List ℕ) × Node)) (q : List (List ℕ)) (node : Node) → finite.find path_cmp q es ≡ None → finite.len (held ((q, node) ∷ es)) ≡ finite.len (held es) + 1
one_more es q node none = finite.len-insert path_total (held es) q node ∙ rw (look es q, none) refl

count_root : finite.len (held root_alone) ≡ 1
count_root = one_more [] [] Dir refl ∙ ap (λ n. n + 1) (finite.len-empty path_cmp Node)

count_a_b : finite.len (held with_a_b) ≡ 3
count_a_b = one_more ((codes "a" ∷ [], Dir) ∷ root_alone) (codes "a" ∷ codes "b" ∷ []) Dir refl ∙ ap (λ n. n + 1) (one_more root_alone (codes "a" ∷ []) Dir refl ∙ ap (λ n. n + 1) count_root)

heard_first : (es : List (List (List ℕ) × Node)) → unheard (with_entries es) first_master ≡ None
unfolding unheard
heard_first es = refl

refuses : (es : List (List (List ℕ) × Node)) (call : Op) (why : NameFault) → own_refusal (with_entries es) call ≡ Some why → call_of (with_entries es) first_master call ≡ (Err why, with_entries es)
refuses es call why is = refused_stays (with_entries es) first_master call why (rw (heard_first es) is)

answers_with : (es fs : List (List (List ℕ) × Node)) (call : Op) (said : Answer) → barred_after set.empty call ≡ set.empty → own_refusal (with_entries es) call ≡ None → answer (held es) call ≡ said → effect (held es) call ≡ held fs → call_of (with_entries es) first_master call ≡ (Ok said, with_entries fs)
answers_with es fs call said kept passed is left = answered_is_made (with_entries es) first_master call (rw (heard_first es) passed) ∙ (λ i. (Ok (is i), record { content = left i; fence = 0; barred = kept i }))

pub namespace_refusals : NamespaceRefusals
namespace_refusals = record {
  run =
      call_then (refuses root_alone (op.Create (codes "a" ∷ codes "b" ∷ []) false) fault.NoParent (rw (look root_alone (codes "a" ∷ codes "b" ∷ []), look root_alone (codes "a" ∷ [])) refl))
      (call_then (answers_with root_alone with_a_b (op.Mkdirs (codes "a" ∷ codes "b" ∷ [])) answers.Done
      refl
      (rw (look root_alone [], look root_alone (codes "a" ∷ codes "b" ∷ []), look root_alone (codes "a" ∷ []), count_root) refl)
      refl
      (rw (look root_alone [], look root_alone (codes "a" ∷ codes "b" ∷ []), look root_alone (codes "a" ∷ [])) refl))
      (call_then (refuses with_a_b (op.Rename (codes "a" ∷ []) (codes "a" ∷ codes "b" ∷ codes "c" ∷ [])) fault.IntoItself (rw (look with_a_b (codes "a" ∷ [])) refl))
      (call_then (refuses with_a_b (op.Rename (codes "x" ∷ []) (codes "y" ∷ [])) fault.Missing (rw (look with_a_b (codes "x" ∷ [])) refl))
      (call_then (answers_with with_a_b with_a_b_f (op.Create (codes "f" ∷ []) true) answers.Done refl (rw (look with_a_b (codes "f" ∷ []), look with_a_b [], count_a_b) refl) refl refl)
      (call_then (refuses with_a_b_f (op.Append (codes "f" ∷ []) (codes "1")) fault.Closed (rw (look with_a_b_f (codes "f" ∷ [])) refl))
      (call_then (refuses with_a_b_f (op.Mkdirs (codes "f" ∷ codes "g" ∷ [])) fault.NotDir (rw (look with_a_b_f [], look with_a_b_f (codes "f" ∷ [])) refl))
      (call_then (refuses with_a_b_f (op.Rename (codes "a" ∷ []) (codes "f" ∷ [])) fault.Exists (rw (look with_a_b_f (codes "a" ∷ []), look with_a_b_f (codes "f" ∷ [])) refl))
      (call_then (refuses with_a_b_f (op.Delete []) fault.NoParent refl) ended))))))));
  superseded = call_then (refused_stays (raised (with_entries with_a_b_f) 2) first_master (op.Exists (codes "a" ∷ [])) (fault.Superseded 2) (rw (unheard-low (raised (with_entries with_a_b_f) 2) first_master refl) refl)) ended;
}

pub root_refusals : RootRefusals
root_refusals =
    call_then (refuses with_a_b_f (op.Create [] false) fault.Exists (rw (look with_a_b_f []) refl))
    (call_then (refuses with_a_b_f (op.Rename [] (codes "x" ∷ [])) fault.IntoItself (rw (look with_a_b_f []) refl))
    (call_then (refuses with_a_b_f (op.Delete (codes "f" ∷ codes "g" ∷ [])) fault.Missing (rw (look with_a_b_f (codes "f" ∷ []), look with_a_b_f (codes "f" ∷ codes "g" ∷ [])) refl))
    (call_then (refuses with_a_b_f (op.Delete (codes "f" ∷ codes "g" ∷ codes "h" ∷ [])) fault.NoParent (rw (look with_a_b_f (codes "f" ∷ codes "g" ∷ [])) refl))
    (call_then (refuses with_a_b_f (op.Create (codes "f" ∷ codes "g" ∷ []) false) fault.NotDir (rw (look with_a_b_f (codes "f" ∷ codes "g" ∷ []), look with_a_b_f (codes "f" ∷ [])) refl))
    (call_then (answers_with with_a_b_f with_a_b_f (op.Mkdirs []) answers.Done refl (rw (look with_a_b_f [], count_a_b_f) refl) refl (rw (look with_a_b_f []) refl)) ended)))))
  where
    count_a_b_f : finite.len (held with_a_b_f) ≡ 4
    count_a_b_f = one_more with_a_b (codes "f" ∷ []) (File [] true) refl ∙ ap (λ n. n + 1) count_a_b

-- a file written at its own path takes the old one's place
rewritten : finite.insert (held (with_f [])) (codes "f" ∷ []) (File (codes "x") false) ≡ held (with_f (codes "x"))
rewritten = finite.same_map path_total path_exact _ _ (λ q.
    finite.get-insert path_total (held (with_f [])) (codes "f" ∷ []) (File (codes "x") false) q
    ∙ ap (cond (eq_by_cmp path_cmp q (codes "f" ∷ [])) (Some (File (codes "x") false))) (finite.get-insert path_total (held root_alone) (codes "f" ∷ []) (File [] false) q)
    ∙ shadowed (eq_by_cmp path_cmp q (codes "f" ∷ [])) (Some (File (codes "x") false)) (Some (File [] false)) (finite.get (held root_alone) q)
    ∙ sym (finite.get-insert path_total (held root_alone) (codes "f" ∷ []) (File (codes "x") false) q))
  where
    shadowed : (b : Bool) (x y z : Option Node) → cond b x (cond b y z) ≡ cond b x z
    shadowed true x y z = refl
    shadowed false x y z = refl

none_of : (es : List (List (List ℕ) × Node)) → length es ≡ 0 → es ≡ []
none_of [] e = refl
none_of (x ∷ es) e = absurd (omega arith)

entries_f : finite.entries (held (with_f (codes "x"))) ≡ ([], Dir) ∷ (codes "f" ∷ [], File (codes "x") false) ∷ []
entries_f =
    let none : finite.entries (held []) ≡ [] = none_of _ (sym (finite.len-entries (held [])) ∙ finite.len-empty path_cmp Node) in
    finite.entries-insert path_total (held root_alone) (codes "f" ∷ []) (File (codes "x") false)
    ∙ ap (put path_cmp (codes "f" ∷ []) (File (codes "x") false)) (finite.entries-insert path_total finite.empty [] Dir ∙ ap (put path_cmp [] Dir) none)

pub read_and_foresee : ReadAndForesee
read_and_foresee = record {
  run =
      call_then (answers_with root_alone (with_f []) (op.Create (codes "f" ∷ []) false) answers.Done refl (rw (look root_alone (codes "f" ∷ []), look root_alone [], count_root) refl) refl refl)
      (call_then (answers_with (with_f []) (with_f (codes "x")) (op.Append (codes "f" ∷ []) (codes "x")) answers.Done refl (rw (look (with_f []) (codes "f" ∷ [])) refl) refl (rw (look (with_f []) (codes "f" ∷ [])) rewritten))
      (call_then (answers_with (with_f (codes "x")) (with_f (codes "x")) (op.Read (codes "f" ∷ [])) (answers.Contents (codes "x")) refl (rw (look (with_f (codes "x")) (codes "f" ∷ [])) refl) (rw (look (with_f (codes "x")) (codes "f" ∷ [])) refl) refl)
      (call_then (refuses (with_f (codes "x")) (op.Read []) fault.NotFile (rw (look (with_f (codes "x")) []) refl))
      (call_then (answers_with (with_f (codes "x")) (with_f (codes "x")) (op.List []) (answers.Listed (entry_of (codes "f") (File (codes "x") false) ∷ [])) refl (rw (look (with_f (codes "x")) []) refl) (ap (λ es. answers.Listed (filter_map (line_of []) es)) entries_f) refl) ended))));
  foreseen = rw (heard_first (with_f (codes "x")), look (with_f (codes "x")) (codes "g" ∷ [])) refl;
}
