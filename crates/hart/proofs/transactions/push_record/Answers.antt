use Rattle.hart.proofs.Bytes.{appended_bytes}
use Rattle.hart.proofs.transactions.push_record.Goals as goal

pub returns-clause-keeps : goal.returns-clause-keeps
returns-clause-keeps c =
    let put = c.in-Ok.ensures in
    appended_bytes c.args.tx.now c.append_record.new.self (record { block = c.args.block; before = c.args.before.now }) c.requires.running put.ok put.records
