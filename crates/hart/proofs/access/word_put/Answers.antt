use Rattle.hart.proofs.Words.{words_put-word}
use Rattle.hart.proofs.access.word_put.Goals as goal

pub returns : goal.returns
returns c = words_put-word c.args.content.now c.args.m.now c.args.value c.with_bytes.result c.requires c.told-content (λ k. c.fits-content k) c.with_bytes.type_inv (rw (c.index.ensures.value, c.index-2.ensures.value) at c.with_bytes.ensures)
