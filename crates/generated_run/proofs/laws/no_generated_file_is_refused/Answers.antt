use Rattle.generated_run.proofs.Accepted.{base-is-accepted, batch-is-accepted, rows-before}
use Rattle.generated_run.proofs.Accepted.{state-after-a-batch, state-at-the-end, state-at-the-start}
use Rattle.generated_run.proofs.laws.no_generated_file_is_refused.Goals as goal

pub returns-clause-base : goal.returns-clause-base
returns-clause-base c = base-is-accepted c.drawn_rows_have_few_nodes.ensures c.base_files_are_read.ensures
    c.batches_are_read.ensures

pub returns-clause-batches : goal.returns-clause-batches
returns-clause-batches c = batch-is-accepted c.drawn_rows_have_few_nodes.ensures c.base_files_are_read.ensures
    c.batches_are_read.ensures

pub returns-clause-rows : goal.returns-clause-rows
returns-clause-rows c = rows-before c.drawn_rows_have_few_nodes.ensures c.base_files_are_read.ensures
    c.batches_are_read.ensures

pub returns-clause-start : goal.returns-clause-start
returns-clause-start c = state-at-the-start

pub returns-clause-next : goal.returns-clause-next
returns-clause-next c = state-after-a-batch

pub returns-clause-end : goal.returns-clause-end
returns-clause-end c = state-at-the-end
