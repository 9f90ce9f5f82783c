-- The bytes that are held, whoever holds them: our own.
use Rattle.std.specs.Prelude.{ℕ, List}
use Rattle.mr_ids.specs.declared.contents.Held.{Held}
use Rattle.mr_ids.specs.declared.contents.Held.TheVariants.{Alone, Shared}

abbrev pub contents_of : Held → List ℕ
contents_of (Alone items) = items.items
contents_of (Shared part) = part
