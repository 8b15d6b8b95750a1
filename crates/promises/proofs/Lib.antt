mod Checks
mod Order
mod TakeOrder
pub mod TableOrder
mod NumbersInOrder
pub mod PayloadOrder
mod ReceiveOrder
pub mod Demand1
pub mod Headers
pub mod CutAndJoined
pub mod Payloads
pub mod OneCodec
mod SameItems
mod CutShort
mod StoppedAt
pub mod Places
pub mod WorkedPlaces
pub mod Lookups
mod ByID
mod Kind2
mod Reacting
mod Replying
pub mod Platforms
pub mod Demand2
mod Machine
mod OneChannel
mod Complete
mod Apart
mod Agrees
mod Arrivals
pub mod Demand3
pub mod SmallTraffic
pub mod WrongJoiners
pub mod WrongCodecs
pub mod WrongPlaces
pub mod WrongPlatforms
pub mod NotRuledOut
pub mod WrongTurns
pub mod Starred
pub mod Amended
pub mod EachNumber
pub mod AtLimits
pub mod Unique
pub mod UniqueCalls
pub mod UniqueRequests
pub mod UniquePlatforms
pub mod Halving
mod SentFor
pub mod Requests
mod RequestTables
mod RequestReceipts
mod NewRequest
pub mod AskedAndAnswered
mod RequestsAlong
mod OneRequestRun
pub mod RequestRuns
pub mod WrongListings
pub mod UniqueOperations
pub mod UniquePlans
pub mod UniqueLeaves
pub mod UniqueNumbers
pub mod UniqueServices
pub mod Services
pub mod WorkedServices
pub mod WrongServices
pub mod Plans
pub mod WorkedPlans
pub mod PlanCalls
mod AnswersKeep
pub mod ExportsKeep
mod LinkedRuns
pub mod Linked
pub mod InNumbers
pub mod WrongCalls
mod Numbered
pub mod LinkedPayloads
mod PlanOutcomes
pub mod LinkedPlans
pub mod LinkedPieces
pub mod LinkedMessages
pub mod LinkedReplies
pub mod LinkedResponses
pub mod Numbers
mod Reporting
pub mod WrongReports
pub mod Responses
pub mod WrongResponses
mod EnumWords
mod OperationRules
pub mod Rules32
pub mod WrongChecks
pub mod Sizes33
pub mod LinkedCut
pub mod Missed
pub mod UniqueIssue3
pub mod Issue3Order
pub mod Issue3Messages
pub mod NoCrossReading
pub mod WrongReaders
pub mod AnyOrder
pub mod UniqueMixed
mod Issue3Words
mod IssueContracts
mod WrittenByIssue
mod ReadByIssue
mod ReadAgain
pub mod LinkedIssue3
pub mod AsBefore
mod ReplyBytes3
mod OneOfOurs
mod Reacting3
mod Reporting3
mod Received3
mod Replying3
pub mod Replies3
mod BlockAnew
pub mod ServicesAcross
pub mod WorkedReplies3
pub mod WrongReplies3
mod MixedCalls
mod MixedRooms
mod MixedNot0
pub mod MixedRefusals
pub mod MixedSending
pub mod WrongAsking
pub mod LinkedSending
pub mod MixedOnSections
mod LinkedReplying3
mod LinkedAcross
pub mod LinkedReplies3
pub mod WrongReports3
pub mod WrongAcross
mod MixedByTable
mod MixedMeasure
mod MixedWeights
mod MixedReplies
mod MixedHeld
mod MixedThrees
mod MixedSixes
mod MixedArrivals
mod MixedRuns
pub mod MixedExchange
pub mod WrongMixedExchange
mod MixedChains
mod MixedRead
mod MixedThree
mod MixedSix
pub mod MixedOrder
mod MixedBlocks
mod MixedWords
mod MixedChanges
pub mod MixedServices
pub mod WorkedMixed
mod OurDeeds
pub mod WrongMixed
pub mod WrongMixedOrders
mod MixedKept
mod MixedReceipts
mod AnyReceipts
pub mod MixedResponses
pub mod MixedAsked
pub mod WrongMixedResponses
pub mod MixedTurns
mod SomeMixed
pub mod LinkedMixed
pub mod WrongLinkedMixed
mod MixedNextFits
mod SendsAlong
mod MixedRequestsAlong
mod OneMixedRun
pub mod MixedRequestRuns
pub mod WrongMixedListings
mod SetUps
pub mod UniqueMessages
