pub mod ContentTests
pub mod Tests
