use Rattle.page_call.proofs.PageLaws.{ranged}
use Rattle.page_call.proofs.paging.page.Goals as goal

pub put_page-requires : goal.put_page-requires
put_page-requires c = ranged _ _ c.in_ok-events.ensures.few c.in_ok-events.ensures.answer
