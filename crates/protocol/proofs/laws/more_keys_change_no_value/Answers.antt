use Rattle.protocol.proofs.Keys.{same_in_place, same_raw, same_peek, same_view}
use Rattle.protocol.proofs.laws.more_keys_change_no_value.Goals as goal

pub returns-clause-in_place : goal.returns-clause-in_place
returns-clause-in_place c = same_in_place

pub returns-clause-raw : goal.returns-clause-raw
returns-clause-raw c = same_raw

pub returns-clause-peek : goal.returns-clause-peek
returns-clause-peek c = same_peek

pub returns-clause-view : goal.returns-clause-view
returns-clause-view c = same_view
