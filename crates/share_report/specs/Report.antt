-- Document 01, "The share": what `raceshare` prints.
use Rattle.std.specs.Prelude.{List, ◌++◌, ℕ}
use Rattle.basics.specs.Text.{bytes}
use Rattle.refusals_text.specs.Report.{key_number}
use Rattle.share_report.specs.Types.{Share}

-- `share=666 remainder=2 divisor=3`
unfoldable pub share_line : Share → List ℕ
share_line x =
    key_number (bytes "share=") x.quotient ++ key_number (bytes " remainder=") x.remainder ++ key_number (bytes " divisor=") x.divisor ++ bytes "\n"
