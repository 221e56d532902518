use Rattle.std.proofs.Common.{Err, inl, inr, refl, sym, true≢false}
use Rattle.requests.proofs.files.make_file.Goals as goal

-- all was put, and could not be written out
pub returns-in-Err-ended : goal.returns-in-Err-ended
returns-in-Err-ended g c = inr (
  refl,
  record {
    opened = c.begin.new.store;
    page = c.in_ok-page.page;
    begun = c.in_ok-page.ensures;
    left = c.put-put.new.self;
    result = Err c.in-Err-ended.field-0;
    took = inr (record { whole = c.in-Ok.ensures.all; clean = c.in-Ok.ensures.clean }, λ ok. true≢false (sym ok));
    done = c.in-Err-ended.ensures;
  },
)

-- not all was put
pub returns-in-Err : goal.returns-in-Err
returns-in-Err g c = inr (
  refl,
  record {
    opened = c.begin.new.store;
    page = c.in_ok-page.page;
    begun = c.in_ok-page.ensures;
    left = c.put-put.new.self;
    result = c.end-ended.result;
    took = inl (record { part = c.in-Err.ensures.part; fault = c.in-Err.ensures.fault });
    done = c.end-ended.ensures;
  },
)
