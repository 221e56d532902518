use Rattle.std.proofs.Common.{Bor, List, Option, ℕ, inl, inr, refl, subst, subst₂, sym}
use Rattle.std.proofs.lemmas.Result.{err_from_is_err_and, MatchResult-weaker}
use Rattle.requests.specs.NamedFiles.{IsReadAt, IsReadIf, IsUnreadAt, IsUnreadIf, file_of, schedule_of}
use Rattle.requests.specs.declared.fault.Fault.{Fault}
use Rattle.simulate.proofs.entry.serve.Goals as goal

-- the file isn't read
pub returns-in_err-file-clause-served : goal.returns-in_err-file-clause-served
returns-in_err-file-clause-served g c =
    let p = err_from_is_err_and c.from_residual.result c.from_residual.ensures.1 in
    rw (p.1, p.2) (inl (subst (λ (path : Bor (List ℕ)). IsUnreadAt g.S.Store.reads g.S.Store.refuses c.args.store.now path c.in_err-file.field-0.0) c.file_of.ensures c.in_err-file.ensures, refl))

-- it is made
pub returns-in-Ok-clause-served : goal.returns-in-Ok-clause-served
returns-in-Ok-clause-served g c =
    let file : IsReadAt g.S.Store.reads g.S.Store.refuses c.args.store.now (file_of c.args.request.now).now c.deref.result.now =
    subst₂ (λ (path : Bor (List ℕ)) (bytes : List ℕ). IsReadAt g.S.Store.reads g.S.Store.refuses c.args.store.now path.now bytes) c.file_of.ensures (sym c.deref.ensures.value) c.in_ok-file.ensures in
    let list : IsReadIf g.S.Store.reads g.S.Store.refuses c.args.store.now (schedule_of c.args.request.now) c.deref-in-Ok.result.now =
    subst₂ (λ (path : Option (Bor (List ℕ))) (bytes : List ℕ). IsReadIf g.S.Store.reads g.S.Store.refuses c.args.store.now path bytes) c.schedule_of.ensures (sym c.deref-in-Ok.ensures.value) c.in-Ok.ensures in
    MatchResult-weaker c.make.result c.make.ensures.made (λ status is. (c.deref.result.now, file, inl (c.deref-in-Ok.result.now, list, is)))
    (λ fault is. inr (c.deref.result.now, file, inr (c.deref-in-Ok.result.now, list, is)))

-- the schedule isn't read
pub returns-clause-served : goal.returns-clause-served
returns-clause-served g c =
    let file : IsReadAt g.S.Store.reads g.S.Store.refuses c.args.store.now (file_of c.args.request.now).now c.deref-in-Err.result.now =
    subst₂ (λ (path : Bor (List ℕ)) (bytes : List ℕ). IsReadAt g.S.Store.reads g.S.Store.refuses c.args.store.now path.now bytes) c.file_of.ensures (sym c.deref-in-Err.ensures.value) c.in_ok-file.ensures in
    let unread : IsUnreadIf g.S.Store.reads g.S.Store.refuses c.args.store.now (schedule_of c.args.request.now) c.in-Err.unread =
    subst (λ (path : Option (Bor (List ℕ))). IsUnreadIf g.S.Store.reads g.S.Store.refuses c.args.store.now path c.in-Err.unread) c.schedule_of.ensures c.in-Err.ensures in
    MatchResult-weaker c.tell_unready.result c.tell_unready.ensures.told (λ status told. (c.deref-in-Err.result.now, file, inr (c.in-Err.unread, unread, (told.0, told.1, told.2, told.3, refl))))
    (λ fault is. inr (
      c.deref-in-Err.result.now,
      file,
      inl (
        subst (λ (why : Fault). IsUnreadIf g.S.Store.reads g.S.Store.refuses c.args.store.now (schedule_of c.args.request.now) why) (sym is.0) unread,
        is.1,
        rw is.2 refl,
      ),
    ))
