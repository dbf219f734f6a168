-- What a store in memory holds. It tells its bytes.
use Rattle.std.specs.Prelude.{Some}
use Rattle.kernel_api.specs.Stock.{Stock, held_of}
use Rattle.snap_store.specs.declared.block_store.BlockStore.{BlockStore}

abbrev pub stock_of : BlockStore → Stock
stock_of s = record { block = s.block; most = s.most; peak = s.peak; held = held_of s.block s.snapshots; told = Some s.snapshots }
