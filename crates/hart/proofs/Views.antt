-- A hart's fields as its value.
use Rattle.std.proofs.Common.{ℕ}
use Rattle.hart.specs.declared.hart.Hart.TheInside.{Inside}
use Rattle.hart.specs.Parts.{Parts}

abbrev pub parts : {S W : ℕ} → Inside S W → Parts
parts a = record {
  index = a.index;
  harts = a.harts;
  size = a.size;
  regs = a.regs;
  pc = a.pc;
  status = a.status;
  tx = a.tx;
  cache = a.cache;
  reserved = a.reserved;
  request = a.request;
  put = a.put;
  fresh = a.fresh;
}
