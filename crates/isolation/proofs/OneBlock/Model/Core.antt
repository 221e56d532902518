-- What a hart's own steps make of the block.
use Rattle.std.proofs.Common.{◌≡◌, List, [], ◌∷◌, Bool, true, false, Option, None, Some, ◌||◌, cond}
use Rattle.words.specs.declared.stamp.Stamp.{Stamp}
use Rattle.words.specs.declared.message.Kind.{Kind}
use Rattle.words.specs.declared.message.Kind.TheVariants.{Read, Write}
use Rattle.words.specs.declared.message.LineState.TheVariants.{Shared, Exclusive, Modified}
use Rattle.protocol.specs.Messages.{Block}
use Rattle.words.specs.declared.marks.Marks.{Marks}
use Rattle.words.specs.Marks.{is_marked}
use Rattle.isolation.proofs.OneBlock.Model.State.{Copy, Absent, Has, Wait, Tx, Outside, Running, Aborting, Own, Local, lay, fresh_marks}

abbrev pub enough : Kind → Copy → Bool
enough k Absent = false
enough Read (Has s d m) = true
enough Write (Has Shared d m) = false
enough Write (Has Exclusive d m) = true
enough Write (Has Modified d m) = true

-- an instruction retires; a is what the next one does to this block
abbrev pub retire : Option Kind → Own → Own
retire a o = record o { noted = false; access = a }

-- a load
abbrev pub read_mark : Tx → Copy → Copy
read_mark Outside x = x
read_mark Aborting x = x
read_mark Running Absent = Absent
read_mark Running (Has s d m) = Has s d (record m { read = true })

abbrev pub load_own : Tx → Own → Own
load_own Outside o = o
load_own Aborting o = o
load_own Running o = record o { in_r = true }

abbrev pub load : Option Kind → Local → Local
load a l = record l { line = read_mark l.own.tx l.line; own = retire a (load_own l.own.tx l.own) }

-- a store of the bytes p
abbrev pub stored : Tx → (Block → Block) → Copy → Copy
stored t p Absent = Absent
stored Outside p (Has s d m) = Has Modified (p d) m
stored Aborting p (Has s d m) = Has s d m
stored Running p (Has s d m) = Has Modified (p d) (record m { written = true })

abbrev pub logged : Copy → List Block → List Block
logged Absent xs = xs
logged (Has s d m) xs = cond m.written xs (d ∷ xs)

abbrev pub store_own : Tx → (Block → Block) → Copy → Own → Own
store_own Outside p x o = o
store_own Aborting p x o = o
store_own Running p x o = record o { in_w = true; images = logged x o.images; writes = Some (λ k. p (lay o.writes k)) }

abbrev pub store : (Block → Block) → Option Kind → Local → Local
store p a l = record l { line = stored l.own.tx p l.line; own = retire a (store_own l.own.tx p l.line l.own) }

abbrev pub flat_after : Tx → (Block → Block) → Block → Block
flat_after Outside p m = p m
flat_after Running p m = m
flat_after Aborting p m = m

-- an abort undoes the newest record
abbrev pub put_back : Block → Copy → Copy
put_back v Absent = Absent
put_back v (Has s d m) = Has Modified v m

abbrev pub undo : Block → List Block → Local → Local
undo v rest l = record l { line = put_back v l.line; own = record l.own { images = rest } }

-- a request goes out: for the instruction, or to undo
abbrev pub fresh : Kind → Wait
fresh k = record { kind = k; grant = None; from = λ _. false; refused = false; content = None; early = false }

abbrev pub ask : Kind → Local → Local
ask k l = record l { wait = Some (fresh k); get = Some (k, l.own.stamp) }

abbrev pub Due : Tx → Kind → Option Kind → List Block → Type 0
Due Outside k access images = access ≡ Some k
Due Running k access images = access ≡ Some k
Due Aborting Write access [] = ⊥
Due Aborting Write access (x ∷ xs) = Unit {0}
Due Aborting Read access images = ⊥

-- evictions
abbrev pub spill : Bool → Own → Own
spill marked o = record o { overflow = o.overflow || marked; spilled = o.spilled || marked }

abbrev pub drop_line : Marks → Local → Local
drop_line m l = record l { line = Absent; own = spill (is_marked m) l.own }

abbrev pub write_back : Block → Marks → Local → Local
write_back d m l = record l { line = Absent; put = Some (d, is_marked m); puts = Some (d, is_marked m); own = spill (is_marked m) l.own }

-- a transaction begins, commits, aborts
abbrev pub begin : Stamp → Option Kind → Own → Own
begin s a o = record { tx = Running; conflict = false; overflow = false; flag = false; stamp = Some s; images = []; in_r = false; in_w = false; writes = None; access = a; spilled = false; refused_earlier = false; noted = false }

abbrev pub leave : Bool → Option Kind → Own → Own
leave noted a o = record { tx = Outside; conflict = false; overflow = false; flag = false; stamp = None; images = []; in_r = false; in_w = false; writes = None; access = a; spilled = o.spilled; refused_earlier = o.refused_earlier; noted = noted }

abbrev pub clear_marks : Copy → Copy
clear_marks Absent = Absent
clear_marks (Has s d m) = Has s d (fresh_marks false)

abbrev pub commit : Option Kind → Local → Local
commit a l = record l { line = clear_marks l.line; own = leave false a l.own }

abbrev pub start_abort : Local → Local
start_abort l = record l { own = record l.own { tx = Aborting } }

abbrev pub end_abort : Option Kind → Local → Local
end_abort a l = record l { line = clear_marks l.line; own = leave l.own.noted a l.own }

-- what the hart does at other blocks
abbrev pub spill_elsewhere : Local → Local
spill_elsewhere l = record l { own = record l.own { overflow = true; spilled = true } }

abbrev pub refuse_elsewhere : Local → Local
refuse_elsewhere l = record l { own = record l.own { flag = true; refused_earlier = true } }

abbrev pub refused_elsewhere : Local → Local
refused_elsewhere l = record l { own = record l.own { noted = true } }

abbrev pub conflict_elsewhere : Local → Local
conflict_elsewhere l = record l { own = record l.own { tx = Aborting; conflict = true } }
