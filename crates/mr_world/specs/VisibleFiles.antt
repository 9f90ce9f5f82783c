-- What a reader sees of a directory. That hidden names are no output is Hadoop's committer document's.
use Rattle.std.specs.Prelude.{ℕ, Bool, true, false, List, [], ◌∷◌, ◌++◌, Option, Some, None, if◌then◌else◌}
use Rattle.mr_names_tree.specs.declared.node.Kind.{Kind}
use Rattle.mr_names_tree.specs.declared.node.Kind.TheVariants as kind
use Rattle.mr_world_model.specs.Ids.{Name, Path, is_hidden}
use Rattle.mr_world_model.specs.Content.{Content, Entry, Dir, File, entry_at}
use Rattle.mr_world_model.specs.Results.{file_as}
use Rattle.mr_world.specs.declared.results.VisibleFile.{VisibleFile}

-- the name and the bytes of a file that is seen
abbrev pub as_pair : VisibleFile → Name × List ℕ
as_pair f = (f.name, f.bytes)

abbrev pub is_file_kind : Option Kind → Bool
is_file_kind None = false
is_file_kind (Some kind.Dir) = false
is_file_kind (Some kind.File) = true

-- the bytes of a file
abbrev pub contents : Option Entry → Option (List ℕ)
contents None = None
contents (Some Dir) = None
contents (Some (File bytes closed)) = Some bytes

-- the file of this name directly beneath a path, unless the name is hidden
abbrev pub seen_beneath : Content → Path → Name → List (Name × List ℕ)
seen_beneath c top name = if is_hidden name then [] else file_as name (entry_at c (top ++ name ∷ []))
