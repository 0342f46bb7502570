-- The buffer has room, so the sheet is saved, and the file is what the buffer begins with.
use Rattle.std.proofs.Common.{ap, ◌∙◌, take}
use Rattle.std.proofs.lemmas.List.{take_at}
use Rattle.pairing.specs.Places.{places_of}
use Rattle.report.proofs.Exported.{is_saved, file_saved}
use Rattle.report.proofs.assignment_text.order_of_sheet.Goals as goal

pub unreachable-requires : goal.unreachable-requires
unreachable-requires c = c.in_default.not-Ok _
    (is_saved c.requires c.as_slice-costs.ensures.value c.as_slice-standing.ensures.value
    (c.places.ensures ∙ ap places_of c.size.ensures.value)
    (c.as_mut_slice.ensures.len ∙ c.in_ok-file.ensures.len) c.save.ensures)

pub returns : goal.returns
returns c =
    file_saved c.requires c.as_slice-costs.ensures.value c.as_slice-standing.ensures.value
    (c.places.ensures ∙ ap places_of c.size.ensures.value)
    (c.as_mut_slice.ensures.len ∙ c.in_ok-file.ensures.len) c.save.ensures
    c.size.ensures.range.some c.in-Ok.length c.in-Ok.is c.truncate.new.self.items
    (c.truncate.ensures.items ∙ ap (take c.in-Ok.length)
    (take_at c.save.new.out _ c.in_ok-file.file.len
    (c.save.auto.out ∙ c.as_mut_slice.ensures.len)))
