-- What is written of a reply.
use Rattle.std.specs.Prelude.{ℕ, List, ◌++◌, flat_map, codes, decimal}
use Rattle.hex.specs.Hex.{encode_lower}
use Rattle.line_forms.specs.Fields.{field_text}
use Rattle.line_forms.specs.FieldLists.{line_of}
use Rattle.line_forms.specs.Lines.{ended_line}
use Rattle.report_text.specs.declared.form.Form.TheVariants.{Two}
use Rattle.report_text.specs.RowLines.{row_fields}
use Rattle.desk_keep.specs.declared.result_row.ResultRow.{ResultRow}
use Rattle.server_text.specs.declared.site_versions.SiteVersion.{SiteVersion}
use Rattle.server_text.specs.declared.reply.Reply.{Reply}
use Rattle.server_text.specs.declared.reply.Reply.TheVariants as reply

-- words and a digest, as a line
unfoldable pub digest_body : List ℕ → List ℕ → List ℕ
digest_body words digest = ended_line (field_text words ++ encode_lower digest)

-- words and a number, as a line
unfoldable pub number_body : List ℕ → ℕ → List ℕ
number_body words number = ended_line (field_text words ++ decimal number)

-- the line of a site: its name and its version
unfoldable pub version_line : SiteVersion → List ℕ
version_line site = ended_line (field_text site.name ++ decimal site.version)

-- the line of a result: the fields of its row, as a report of form Two has them, and the number of its report
unfoldable pub result_line : ResultRow → List ℕ
result_line result = ended_line (field_text (line_of (row_fields Two result.row)) ++ decimal result.seq)

-- the body of a reply
abbrev pub body_of : Reply → List ℕ
body_of reply.Ok = codes "ok\n"
body_of reply.Again = codes "again\n"
body_of (reply.Digest digest) = digest_body (codes "ok") digest
body_of (reply.Sites sites) = flat_map version_line sites
body_of (reply.Site text) = text
body_of reply.Same = codes "same\n"
body_of (reply.Content bytes) = bytes
body_of (reply.Rows rows) = flat_map result_line rows
body_of (reply.BadText line) = number_body (codes "bad text") line
body_of (reply.Conflict digest) = digest_body (codes "conflict") digest
body_of reply.NoSuch = codes "no such\n"
body_of (reply.Older version) = number_body (codes "older") version
body_of (reply.Full limit) = number_body (codes "full") limit
body_of reply.KeeperFault = codes "keeper fault\n"
body_of reply.Memory = codes "memory\n"
