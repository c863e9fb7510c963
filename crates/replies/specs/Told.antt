-- The words of a console's replies.
use Rattle.std.specs.Prelude.{ℕ, cond, List, [], ◌∷◌, ◌++◌, ◌==◌, Some, None, codes, decimal, Option, string_bytes}
use Rattle.address.specs.declared.Address.{Ghosts}
use Rattle.address.specs.declared.prefix.Prefix.{Prefix}
use Rattle.routes.specs.declared.Route.{Route}
use Rattle.replies.specs.Kinds.{kind_name}
use Rattle.replies.specs.declared.answers.RouteText.{RouteText}
use Rattle.replies.specs.declared.reply.Misread.{Misread}
use Rattle.replies.specs.declared.reply.Reply.{Reply}
use Rattle.replies.specs.declared.reply.Stop.{Stop}
use Rattle.replies.specs.declared.reply.Stop.TheVariants.{NoMemory, Differ}
use Rattle.replies.specs.declared.reply.Reply.TheVariants.{Silence, Remark, Answered, Refused, Misread as NotRead, Switched}

-- what was expected, and where it was missed
abbrev pub misread_told : Misread → List ℕ
misread_told m = codes "expected " ++ (m.expected.now ++ (codes " (at byte " ++ (decimal m.place ++ codes ")")))

-- a route by the text of its prefix and its hop
abbrev pub route_told : List ℕ → ℕ → List ℕ
route_told prefix hop = prefix ++ (codes " by hop " ++ decimal hop)

abbrev pub route_text_told : RouteText → List ℕ
route_text_told text = route_told (string_bytes text.prefix) text.hop

-- the same, if there is a route
abbrev pub found_told : Option RouteText → List ℕ
found_told None = codes "no route"
found_told (Some text) = route_text_told text

module _ {X : Type 0} (spelled : X → List ℕ) where
  -- the text of a prefix, by the text of its address
  abbrev pub prefix_spelled : Prefix X → List ℕ
  prefix_spelled p = spelled p.address ++ (47 ∷ decimal p.length)

  -- the words of a route
  abbrev pub route_spelled : {G : Ghosts X} → Route X G → List ℕ
  route_spelled r = route_told (prefix_spelled r.prefix) r.hop

  abbrev pub found_spelled : {G : Ghosts X} → Option (Route X G) → List ℕ
  found_spelled None = codes "no route"
  found_spelled (Some r) = route_spelled r

-- so many of a thing
abbrev pub several_told : ℕ → List ℕ → List ℕ
several_told count noun = cond (count == 1) (codes "1 " ++ noun) (decimal count ++ (codes " " ++ (noun ++ codes "s")))

-- the answer to an opening, by the nodes and the number of strides
abbrev pub opened_told : ℕ → ℕ → List ℕ
opened_told nodes strides = decimal nodes ++ (codes " nodes, " ++ (decimal strides ++ codes " strides, no routes"))

-- the answer to an insert, by the hop that was put in, the old hop and the nodes taken
abbrev pub inserted_told : ℕ → Option ℕ → ℕ → List ℕ
inserted_told hop None taken = codes "new, " ++ (several_told taken (codes "node") ++ codes " taken")
inserted_told hop (Some old) taken =
    codes "hop " ++ (decimal hop ++ (codes " in place of " ++ (decimal old ++ (codes ", " ++ (several_told taken (codes "node") ++ codes " taken")))))

-- the answer to a delete, by the hop of what was removed and the nodes returned
abbrev pub deleted_told : ℕ → ℕ → List ℕ
deleted_told hop returned =
    codes "was by hop " ++ (decimal hop ++ (codes ", " ++ (several_told returned (codes "node") ++ codes " returned")))

-- the answer to a lookup, by the route in words and the nodes on the path
abbrev pub matched_told : List ℕ → ℕ → List ℕ
matched_told route path = route ++ (codes ", " ++ several_told path (codes "node"))

-- the answer to an exact, by the hop that was found
abbrev pub hop_told : Option ℕ → List ℕ
hop_told None = codes "no route"
hop_told (Some hop) = codes "hop " ++ decimal hop

-- the answer to a count
abbrev pub counted_told : ℕ → ℕ → ℕ → List ℕ
counted_told routes required free =
    several_told routes (codes "route") ++ (codes ", " ++ (several_told required (codes "node") ++ (codes " required, " ++ (decimal free ++ codes " free"))))

-- an answer or a refusal in words, behind what was asked
abbrev pub told : List ℕ → List ℕ → List ℕ
told asked words = asked ++ (codes ": " ++ words)

-- all commands
abbrev pub help_told : List ℕ
help_told =
    codes "commands: kind ipv4|ipv6; open NODES STRIDE,STRIDE,..; insert PREFIX HOP; delete PREFIX; lookup ADDRESS; exact PREFIX; first; next PREFIX; counts; list; nodes; help; # REMARK"

-- what is printed of a reply
abbrev pub reply_told : Reply → List ℕ
reply_told Silence = []
reply_told (Remark text) = text.now
reply_told (Answered text) = string_bytes text
reply_told (Refused text) = string_bytes text
reply_told (NotRead line misread) = codes "line " ++ (decimal line ++ (codes ": " ++ misread_told misread))
reply_told (Switched kind) = codes "kind " ++ (kind_name kind ++ codes ": shut")

-- what is printed where a line has no reply
abbrev pub stop_told : Stop → List ℕ
stop_told NoMemory = codes "no memory"
stop_told Differ = codes "an error of the engine: table and list differ"
