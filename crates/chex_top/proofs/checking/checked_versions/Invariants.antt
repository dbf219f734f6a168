use Rattle.std.proofs.Common.{◌≡◌, ◌++◌, length}
use Rattle.std.specs.List.{AllZip}
use Rattle.std.specs.Vec.Iter.{into_iter_items, into_iter_len}
use Rattle.chex_top.specs.Jobs.{AreSmall, IsChecked}
use Rattle.chex_top.proofs.checking.checked_versions.Given as goal

abbrev pub invariant-loop-version : goal.invariant-loop-version
invariant-loop-version l = record {
  made : AllZip IsChecked l.yielded l.all.items;
  whole : l.yielded ++ into_iter_items l.version-iterator ≡ into_iter_items l.initial.version-iterator;
  small : AreSmall (into_iter_items l.version-iterator);
  left : into_iter_len l.version-iterator ≡ length (into_iter_items l.version-iterator);
}
