-- Lines agree with the entry and with the value in place; and what a transaction has read or written is marked, or under the overflow
-- bit.
use Rattle.std.proofs.Common.{◌≡◌, ◌⊎◌, ℕ, true, Option, None, Some, sym, ap, ◌∙◌, inl, inr, arith}
use Rattle.words.specs.declared.message.LineState.{LineState}
use Rattle.protocol.specs.Lines.{Line}
use Rattle.protocol.specs.Hart.{Hart, overflow_of}
use Rattle.protocol.specs.Directory.{Owned, Sticky}
use Rattle.protocol.specs.Values.{owner_of, in_place}
use Rattle.isolation.proofs.OneBlock.Invariant.Laws.{Named, ReadMarked, WriteMarked, owner_now, IsGranted as LocalIsGranted}
use Rattle.isolation.specs.Facts.{IsGranted, IsNamed, LinesAgree, ReadIsMarked, WriteIsMarked, IsCovered}
use Rattle.isolation.proofs.Machine.World.{World, copy_of, project}
use Rattle.isolation.proofs.Machine.Invariant.{Inv}
use Rattle.isolation.proofs.Machine.Readings.{busy_at, no_line, a_line, done_sent, known_at}
use Rattle.isolation.proofs.Machine.Tables.{owned_enough}

read_is : (h : Hart) (o : Option Line) → ReadMarked (copy_of o) (overflow_of h.tx) → ReadIsMarked h o
read_is h None e = e
read_is h (Some l) e = e

write_is : (h : Hart) (o : Option Line) → WriteMarked (copy_of o) (overflow_of h.tx) → WriteIsMarked h o
write_is h None e = e
write_is h (Some l) e = grind arith

module _ (x : World) (v : Inv x) where
  granted : (i b : ℕ) (give : LineState) → LocalIsGranted (project b x) i give → IsGranted x.machine b i give
  granted i b give e = (busy_at (x.machine.entries b).busy i give e.1, (e.0, done_sent x v i b true e.0 e.2))

  named : (i b : ℕ) → Named (project b x) i → IsNamed x.machine b i
  named i b (inl e) = inl e
  named i b (inr (inl e)) = inr (inl e)
  named i b (inr (inr (inl e))) = inr (inr (inl e))
  named i b (inr (inr (inr e))) = inr (inr (inr (e.0, granted i b e.0 e.1)))

  module _ (keys : ℕ) (owner : (b : ℕ) → owner_of keys x.machine b ≡ owner_now (project b x)) where
    writer : (i b : ℕ) → ((x.machine.entries b).owner ≡ Owned i) ⊎ (((x.machine.entries b).owner ≡ Sticky i) ⊎ (owner_now (project b x) ≡ Some i)) → ((x.machine.entries b).owner ≡ Owned i) ⊎ (((x.machine.entries b).owner ≡ Sticky i) ⊎ (owner_of keys x.machine b ≡ Some i))
    writer i b (inl e) = inl e
    writer i b (inr (inl e)) = inr (inl e)
    writer i b (inr (inr e)) = inr (inr (owner b ∙ e))

    -- read and write sets are covered by marks or the overflow bit
    pub covered : IsCovered keys x.machine x.flat
    covered = record {
      read = λ i b o e. let k = (known_at x v b).sets.reads i o e in (read_is (x.machine.harts i) ((x.machine.harts i).lines b) k.0, named i b k.1);
      written = λ i b o e. let k = (known_at x v b).sets.stores i o e in (write_is (x.machine.harts i) ((x.machine.harts i).lines b) k.0, writer i b k.1);
    }

    -- lines agree with the entry, where the owner and the value in place are known
    pub lines_agree : ((b : ℕ) → in_place keys x.machine b ≡ (known_at x v b).cur) → LinesAgree keys x.machine
    lines_agree place = record {
      owner = λ i b l o e f. owner b ∙ (known_at x v b).lines.owner i o (owned_enough ((x.machine.harts i).lines b) l e f);
      only = λ i j b l o p n e f. no_line ((x.machine.harts j).lines b) ((known_at x v b).lines.only i j o p n (owned_enough ((x.machine.harts i).lines b) l e f));
      named = λ i b l o e. named i b ((known_at x v b).lines.named i o (a_line ((x.machine.harts i).lines b) l e));
      sticky = λ i h b l o q e. let k = (known_at x v b).lines.sticky i h o q (a_line ((x.machine.harts i).lines b) l e) in (k.0, granted i b k.0 k.1);
      value = λ i b l o e. (known_at x v b).lines.value i l.state l.content l.marks o (ap copy_of e) ∙ sym (place b);
    }
