-- Document 01, "The page" and refusals 1 to 8, 54, 55 and 51: what the page call makes of a trace and a buffer.
use Rattle.std.specs.Prelude.{List, ℕ, length, Ok}
use Rattle.refusals.specs.Checks.{Checked, ◌▹◌, refuse_short}
use Rattle.trace_text.specs.TraceText.{read_trace}
use Rattle.page_text.specs.Page.{page_text}
use Rattle.page_call.specs.Types.{Refusal}

-- 1 to 8, 54, 55; then 51, the bytes needed, where the buffer has less room; else the page
unfoldable pub paged : ℕ → List ℕ → ℕ → Checked (List ℕ)
paged delay trace room =
    read_trace delay trace ▹ λ es.
    refuse_short room (page_text delay es) Refusal.PageShort ▹ λ _.
    Ok (page_text delay es)

-- what is returned: the page's length, or the refusal
abbrev pub page_answer : Checked (List ℕ) → Checked ℕ
page_answer y = y ▹ λ page. Ok (length page)
