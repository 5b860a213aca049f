-- What numbers are called in document 01, as tables of names: an empty name is none.
use Rattle.std.specs.Prelude.{ℕ, List, [], ◌++◌, eqb, codes}
use Rattle.text_buffer.specs.Tables.{either}
use Rattle.text_buffer.specs.Digits.{hex_number}

-- messages by number
unfoldable pub message_names : List ℕ
message_names = codes ";;;;Create;;Delete;;Set;Get;;Get all alarms;Get all alarms next;MIB upload;MIB upload next;MIB reset;"

-- results by number
unfoldable pub result_names : List ℕ
result_names =
    codes "done;no place;command not supported;bad parameter;unknown class;unknown instance;;instance exists;;attribute failed;"

-- reasons of drops by number
unfoldable pub drop_reasons : List ℕ
drop_reasons =
    codes ";reply buffer under 48 bytes;store unsound: power on first;message not 48 bytes;device not 0x0A;"
    ++ codes "top three type bits not 0, 1, 0;correlation id 0;bytes 40-43 wrong;;;;no such instance;"
    ++ codes "attribute not L here, or alarm not declared;content of wrong length or not legal;"

-- a class by its number
unfoldable pub class_name : ℕ → List ℕ
class_name class =
    either (eqb class 2) (codes "ONT data")
    (either (eqb class 11) (codes "Ethernet UNI")
    (either (eqb class 45) (codes "Bridge service profile")
    (either (eqb class 46) (codes "Bridge configuration")
    (either (eqb class 47) (codes "Port configuration")
    (codes "unknown class " ++ hex_number class)))))

-- an instance: its class and its number
abbrev pub instance_name : ℕ → ℕ → List ℕ
instance_name class number = class_name class ++ (codes " " ++ hex_number number)

abbrev uni_attributes : List ℕ
uni_attributes =
    codes ";expected type;sensed type;auto detection;loopback;admin state;operational state;"
    ++ codes "configuration;max frame;DTE/DCE;pause;bridged or IP;ARC;ARC interval;"

-- the attributes of a class by number, from 1
unfoldable pub attribute_names : ℕ → List ℕ
attribute_names class =
    either (eqb class 2) (codes ";sync counter;")
    (either (eqb class 11) uni_attributes
    (either (eqb class 45) (codes ";spanning tree;learning;ATM port bridging;Priority;MaxAge;HelloTime;ForwardDelay;")
    (either (eqb class 46) (codes ";MAC;BridgePriority;DesignatedRoot;RootPathCost;BridgePortCount;RootPortNum;HelloTime;ForwardDelay;")
    (either (eqb class 47) (codes ";BridgeIdPointer;PortNum;TPType;TPPointer;PortPriority;PortPathCost;spanning tree;encapsulation;LANFCSInd;")
    []))))
